-- the fates of the harts below the number
use Rattle.snoop.proofs.Facing.{FatesBelow}
use Rattle.snoop.specs.Shows.{bus_state}
use Rattle.bus_order.specs.Order.{numbered}
use Rattle.snoop.proofs.bus.Bus.fates.Given as goal

abbrev pub invariant-loop-number : goal.invariant-loop-number
invariant-loop-number g l = FatesBelow (bus_state l.self) (numbered l.head) l.number l.fates.items
