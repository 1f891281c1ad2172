-- an event that finds nothing leaves all as it is
use Rattle.engine.proofs.Laws.Waiting.{nothing_leaves}
use Rattle.machine.proofs.machine.Machine.idle.Goals as goal

pub leave-requires-clause-leaves : goal.leave-requires-clause-leaves
leave-requires-clause-leaves c = nothing_leaves _ _ c.requires.nothing
