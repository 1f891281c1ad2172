use Rattle.run_laws.proofs.Laws.Reachable as reachable
use Rattle.run_laws.proofs.theorems.armed_sections_run_covered.Goals as goal

pub returns : goal.returns
returns c = reachable.armed_sections_run_covered
