-- another hart
use Rattle.std.proofs.Common.{◌≡◌, ◌∙◌, ◌==◌, ◌&&◌, ap, arith, false, nat_lt, sym}
use Rattle.std.proofs.lemmas.Bool.Decides.{nat_tests}
use Rattle.lab.proofs.Waiting.{among_replicate}
use Rattle.lab.proofs.waits.took_effect.Goals as goal

pub returns-else-own-hart : goal.returns-else-own-hart
returns-else-own-hart c =
    let e : (c.args.own.number == c.args.hart.number) ≡ false = grind (arith, nat_tests, c.if-own-hart.false) in
    e
    ∙ sym (among_replicate c.args.count c.args.own.number c.args.hart.number ∙ ap (λ b. b && nat_lt 0 c.args.count) e)
