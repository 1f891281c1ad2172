use Rattle.run_laws.proofs.Laws.Reachable as reachable
use Rattle.run_laws.proofs.theorems.letting_go_leaves_memory.Goals as goal

pub returns : goal.returns
returns c = reachable.letting_go_leaves_memory
