use Rattle.run_laws.proofs.Laws.Reachable as reachable
use Rattle.run_laws.proofs.theorems.letting_go_changes_nothing_beside.Goals as goal

pub returns : goal.returns
returns c = reachable.letting_go_changes_nothing_beside
