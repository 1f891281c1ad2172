use Rattle.std.proofs.Common.{rules, arith}
use Rattle.bus_lock.proofs.Keeps.{looks}
use Rattle.bus_lock.proofs.lock.BusLock.is_served.Goals as goal

pub load-requires : goal.load-requires
load-requires g c = (search rules, search rules, looks _ _ _ _ _ _ _ _ c.requires.waits.0 c.requires.waits.1)

pub returns-clause-served : goal.returns-clause-served
returns-clause-served g c = λ served. c.load.ensures.2.0 (grind (arith, served, c.requires.ticket))
