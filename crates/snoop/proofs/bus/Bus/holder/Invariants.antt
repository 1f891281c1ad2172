-- the first one is none of those below the number
use Rattle.std.proofs.Common.{◌≡◌, ◌==◌, ◌&&◌, not, drop}
use Rattle.el_model.specs.Conflicts.{first_such, holder_of}
use Rattle.el_model.specs.State.{ModelState, hart_of, is_held, numbers_of}
use Rattle.snoop.specs.Shows.{Shows, bus_state}
use Rattle.snoop.proofs.bus.Bus.holder.Given as goal

abbrev pub invariant-loop-number : goal.invariant-loop-number
invariant-loop-number l =
    (state : ModelState) → Shows (bus_state l.self) state →
    holder_of state l.request.hart.number l.request.line.number ≡ first_such
    (λ other. not (other == l.request.hart.number) && is_held (hart_of state other).held_line l.request.line.number)
    (drop l.number (numbers_of state))
