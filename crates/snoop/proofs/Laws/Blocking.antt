-- a serve by what is in its way
use Rattle.std.proofs.Common.{◌≡◌, ℕ, None, Some, true, refl, ap}
use Rattle.bus_order.specs.Order.{Request}
use Rattle.el_base.specs.HartId.{hart_id}
use Rattle.el_base.specs.declared.outcomes.Outcome.{Outcome}
use Rattle.el_base.specs.declared.outcomes.Outcome.TheVariants.{Blocked, Served}
use Rattle.el_model.specs.Serve.{Blocks, Free, Obstacle, serve_past}
use Rattle.el_model.specs.State.{ModelState}
use Rattle.line_pool.specs.Pooled.{Pooled}
use Rattle.snoop.specs.MainMemory.{lines_served}
use Rattle.snoop.specs.Obstacles.{blocked_by, is_blocked}
use Rattle.snoop.specs.Shows.{BusState}

-- where nothing blocks a serve, nothing is in its way
pub unblocked_free : (obstacle : Obstacle) → blocked_by obstacle ≡ None → obstacle ≡ Free
unblocked_free Free is = refl
unblocked_free (Blocks why by) is = absurd (cc)

-- a blocked serve writes nothing back
pub lines_unserved : (pool : Pooled) (bus : BusState) (h : ℕ) (outcome : Outcome) → is_blocked outcome ≡ true →
    lines_served pool bus h outcome ≡ bus.copies.lines
lines_unserved pool bus h (Served losers freed) is = absurd (cc)
lines_unserved pool bus h _ is = refl

-- a blocked serve leaves all as it was, and tells what is in its way
pub past_blocked : (state : ModelState) (request : Request) (obstacle : Obstacle) (blocked : Outcome) →
    blocked_by obstacle ≡ Some blocked → serve_past state request obstacle ≡ record { state = state; outcome = blocked }
past_blocked state request Free blocked is = absurd (cc)
past_blocked state request (Blocks why by) blocked is =
    let same : Blocked why (hart_id by) ≡ blocked =
    cc in ap (λ outcome. record { state = state; outcome = outcome }) same
