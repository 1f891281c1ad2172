use Rattle.std.proofs.Common.{rules}
use Rattle.bus_lock.proofs.Parts.{learns}
use Rattle.bus_lock.proofs.lock.BusLock.learn.Goals as goal

pub load-requires : goal.load-requires
load-requires g c = (search rules, search rules, learns _ _ _ _ _ _ _ _ c.requires.rests c.requires.lives)
