-- the law itself
use Rattle.cached_step.proofs.Laws.Told.{tells_memory_after}
use Rattle.cached_step.proofs.theorems.caches_tell_memory_after.Goals as goal

pub returns : goal.returns
returns c = tells_memory_after
