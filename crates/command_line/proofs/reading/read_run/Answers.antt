-- what the words were read as is what they ask for
use Rattle.std.proofs.Common.{◌≡◌, Some, rules, subst}
use Rattle.std.specs.Prelude.{IfOk}
use Rattle.command_line.specs.Words.{meaning, texts}
use Rattle.command_line.proofs.reading.read_run.Goals as goal

pub returns-clause-accepted : goal.returns-clause-accepted
returns-clause-accepted c =
    subst (λ job. IfOk c.ok_or.result (λ command. job ≡ Some (meaning command)))
    (c.run_in.ensures (texts c.args.words.now) c.in_ok-given.ensures.taken) (search rules)
