-- the first hart that holds the line, or one hart more that does not
use Rattle.std.proofs.Common.{◌∙◌, ◌==◌, ◌&&◌, ℕ, Bool, Some, ap, arith, not, sym}
use Rattle.el_model.specs.State.{hart_of, is_held}
use Rattle.snoop.proofs.Firsts.{first_here, first_later}
use Rattle.snoop.proofs.bus.Bus.holder.Goals as goal

pub returns-then-is_other_holder : goal.returns-then-is_other_holder
returns-then-is_other_holder c = λ state shows.
    let test : ℕ → Bool =
    λ other. not (other == c.args.request.hart.number) && is_held (hart_of state other).held_line
    c.args.request.line.number in
    ap Some c.at-hart.ensures
    ∙ sym
    (first_here test state.harts c.loop-number.number (omega (arith, shows.agent_each))
    (c.loop-number.invariant state shows)
    (ap test (sym c.at-hart.ensures) ∙ sym (c.is_other_holder.ensures state shows) ∙ c.if-is_other_holder.true))

pub loop-number-preserved : goal.loop-number-preserved
loop-number-preserved c = λ state shows.
    let test : ℕ → Bool =
    λ other. not (other == c.args.request.hart.number) && is_held (hart_of state other).held_line
    c.args.request.line.number in
    first_later test state.harts c.loop-number.number (omega (arith, shows.agent_each))
    (c.loop-number.invariant state shows)
    (ap test (sym c.at-hart.ensures) ∙ sym (c.is_other_holder.ensures state shows) ∙ c.if-is_other_holder.false)
