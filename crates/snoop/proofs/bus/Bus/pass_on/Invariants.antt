-- what is left to be passed on; a probe changes nothing else
use Rattle.snoop.specs.Shows.{bus_state}
use Rattle.snoop.proofs.Delivers.{PassesOn}
use Rattle.snoop.proofs.bus.Bus.pass_on.Given as goal

abbrev pub invariant-loop-number : goal.invariant-loop-number
invariant-loop-number l =
    PassesOn (bus_state l.initial.self) (bus_state l.self) l.hart.number l.to.number l.line.number l.number
