use Rattle.run_laws.proofs.Laws.Reachable as reachable
use Rattle.run_laws.proofs.theorems.live_sections_run_covered.Goals as goal

pub returns : goal.returns
returns c = reachable.live_sections_run_covered
