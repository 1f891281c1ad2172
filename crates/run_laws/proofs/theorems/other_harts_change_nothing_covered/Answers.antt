use Rattle.run_laws.proofs.Laws.Reachable as reachable
use Rattle.run_laws.proofs.theorems.other_harts_change_nothing_covered.Goals as goal

pub returns : goal.returns
returns c = reachable.other_harts_change_nothing_covered
