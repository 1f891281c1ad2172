use Rattle.std.proofs.lemmas.List.{length-map}
use Rattle.command_line.specs.Simple.{form_of}
use Rattle.command_line.specs.Words.{texts}
use Rattle.command_line.proofs.Agreeing.{are_texts, has_fields, no_fields, not_memory}
use Rattle.command_line.proofs.matching.Given.by_form.Goals as goal

pub returns-in_err-matches-clause-refused : goal.returns-in_err-matches-clause-refused
returns-in_err-matches-clause-refused c = λ usage.
    no_fields (form_of c.args.form) (texts c.args.words.now) (rw length-map c.requires) (are_texts c.args.words.now) _
    c.in_ok-simple_command.ensures
    c.in_err-matches.field-0.0 c.in_err-matches.ensures.kinds
    (not_memory c.from_residual-in_err-matches.result c.in_err-matches.field-0.0
    c.from_residual-in_err-matches.ensures.1 usage)

pub returns-clause-taken : goal.returns-clause-taken
returns-clause-taken c =
    has_fields (form_of c.args.form) (texts c.args.words.now) (rw length-map c.requires) (are_texts c.args.words.now) _
    c.in_ok-simple_command.ensures
    c.in_ok-matches.matches c.in_ok-matches.ensures.matches c.in_ok-matches.ensures.kinds
