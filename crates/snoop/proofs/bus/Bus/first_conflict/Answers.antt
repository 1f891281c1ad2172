-- the first hart that conflicts, or one hart more that does not
use Rattle.std.proofs.Common.{◌∙◌, ℕ, Bool, Some, ap, arith, sym}
use Rattle.bus_order.specs.Order.{numbered}
use Rattle.el_model.specs.Conflicts.{conflicts}
use Rattle.el_model.specs.State.{hart_of}
use Rattle.snoop.proofs.Firsts.{first_here, first_later}
use Rattle.snoop.proofs.bus.Bus.first_conflict.Goals as goal

pub returns-then-conflicts : goal.returns-then-conflicts
returns-then-conflicts c = λ state shows.
    let test : ℕ → Bool = λ h. conflicts (numbered c.args.request) h (hart_of state h) in
    ap Some c.at-hart.ensures
    ∙ sym
    (first_here test state.harts c.loop-number.number (omega (arith, shows.agent_each))
    (c.loop-number.invariant state shows)
    (ap test (sym c.at-hart.ensures) ∙ sym (c.conflicts.ensures state shows) ∙ c.if-conflicts.true))

pub loop-number-preserved : goal.loop-number-preserved
loop-number-preserved c = λ state shows.
    let test : ℕ → Bool = λ h. conflicts (numbered c.args.request) h (hart_of state h) in
    first_later test state.harts c.loop-number.number (omega (arith, shows.agent_each))
    (c.loop-number.invariant state shows)
    (ap test (sym c.at-hart.ensures) ∙ sym (c.conflicts.ensures state shows) ∙ c.if-conflicts.false)
