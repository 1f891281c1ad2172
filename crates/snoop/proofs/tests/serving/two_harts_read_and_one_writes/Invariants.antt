-- the pool and the caches tell one thing for each event
use Rattle.snoop.proofs.tests.serving.two_harts_read_and_one_writes.Given as goal
use Rattle.snoop.specs.Shows.{IsTold, bus_state}

abbrev pub invariant-loop-who : goal.invariant-loop-who
invariant-loop-who g l = IsTold l.rig.pool (bus_state l.rig.bus)
