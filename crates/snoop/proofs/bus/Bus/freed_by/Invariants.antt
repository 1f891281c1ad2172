-- the freed harts among those below the number
use Rattle.bus_order.specs.Order.{numbered}
use Rattle.snoop.proofs.Freeing.{AreFreedBelow}
use Rattle.snoop.specs.LettingGo.{freed_at}
use Rattle.snoop.specs.Shows.{bus_state}
use Rattle.snoop.proofs.bus.Bus.freed_by.Given as goal

abbrev pub invariant-loop-number : goal.invariant-loop-number
invariant-loop-number l = AreFreedBelow (freed_at (bus_state l.self) (numbered l.head)) l.number l.freed
