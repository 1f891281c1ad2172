-- an address at which the bus tells a byte lies in memory
use Rattle.std.proofs.Common.{ap, is_some}
use Rattle.machine.proofs.There.{there_by_byte}
use Rattle.machine.proofs.tests.main_byte.Goals as goal
use Rattle.engine.specs.Shows.{bus_state, lent_copies}

pub main_byte-requires : goal.main_byte-requires
main_byte-requires g c =
    there_by_byte (lent_copies c.lent-lent.result.pool.now (bus_state c.lent-lent.result.bus.now).copies) _
    c.byte.result
    c.byte.ensures.none_exactly_outside (ap is_some c.in-Some.is)
