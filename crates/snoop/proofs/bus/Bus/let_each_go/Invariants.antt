-- the freed harts below the number have been let go
use Rattle.snoop.specs.LettingGo.{AreLetGo}
use Rattle.snoop.specs.Shows.{bus_state}
use Rattle.snoop.proofs.bus.Bus.let_each_go.Given as goal

abbrev pub invariant-loop-number : goal.invariant-loop-number
invariant-loop-number l = AreLetGo l.freed l.number (bus_state l.initial.self) (bus_state l.self)
