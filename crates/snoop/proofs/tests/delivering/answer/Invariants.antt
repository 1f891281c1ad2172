-- the pool and the caches tell one thing for each request
use Rattle.snoop.proofs.tests.delivering.answer.Given as goal
use Rattle.snoop.specs.Shows.{IsTold, bus_state}

abbrev pub invariant-loop-number : goal.invariant-loop-number
invariant-loop-number l = IsTold l.rig.pool (bus_state l.rig.bus)
