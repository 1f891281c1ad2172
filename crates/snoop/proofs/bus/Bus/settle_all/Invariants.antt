-- the harts below the number have their fates
use Rattle.bus_order.specs.Order.{numbered}
use Rattle.snoop.specs.Fates.{fate_in}
use Rattle.snoop.specs.Settled.{AreSettledBelow}
use Rattle.snoop.specs.Shows.{bus_state}
use Rattle.snoop.proofs.bus.Bus.settle_all.Given as goal

abbrev pub invariant-loop-number : goal.invariant-loop-number
invariant-loop-number l =
    AreSettledBelow (numbered l.head) (fate_in l.fates) l.number (bus_state l.initial.self) (bus_state l.self)
