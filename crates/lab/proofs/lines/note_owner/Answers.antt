-- a change of owner
use Rattle.std.proofs.Common.{◌∙◌, ◌++◌, ap, arith, sym}
use Rattle.std.proofs.lemmas.Bool.Decides.{nat_tests}
use Rattle.lab.proofs.Lining.{owner_told}
use Rattle.lab.proofs.lines.note_owner.Goals as goal

pub returns-in_ok-push : goal.returns-in_ok-push
returns-in_ok-push c =
    c.in_ok-push.ensures.items
    ∙ ap (λ l. c.args.facts.now.items ++ l)
    (owner_told c.args.place c.args.line c.args.from c.args.to
    (sym c.is_same.ensures ∙ (grind (arith, nat_tests, c.if-not-is_same.true))))
