use Rattle.std.proofs.Common.{◌≡◌, ◌∙◌, ap, arith}
use Rattle.el_base.specs.declared.config.Config.{Config}
use Rattle.tool.proofs.Succeeding.{all_looked_at}
use Rattle.tool.proofs.ending.all_succeeded.Goals as goal

pub returns : goal.returns
returns c =
    let harts = ap (λ (config : Config). config.harts) c.config-number-end.ensures.exact in
    let looked : c.loop-number.number ≡ c.config-number-end.result.harts = omega arith in
    all_looked_at c.args.machine.now c.loop-number.number c.config-number-end.ensures.one_hart_each (looked ∙ harts)
    c.loop-number.invariant
