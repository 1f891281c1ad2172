-- the first one is none of those below the number
use Rattle.std.proofs.Common.{◌≡◌, drop}
use Rattle.el_model.specs.Conflicts.{conflicts, first_such}
use Rattle.el_model.specs.State.{ModelState, hart_of, numbers_of}
use Rattle.bus_order.specs.Order.{numbered}
use Rattle.snoop.specs.Obstacles.{first_conflict_of}
use Rattle.snoop.specs.Shows.{Shows, bus_state}
use Rattle.snoop.proofs.bus.Bus.first_conflict.Given as goal

abbrev pub invariant-loop-number : goal.invariant-loop-number
invariant-loop-number l =
    (state : ModelState) → Shows (bus_state l.self) state →
    first_conflict_of state (numbered l.request)
    ≡ first_such (λ h. conflicts (numbered l.request) h (hart_of state h)) (drop l.number (numbers_of state))
