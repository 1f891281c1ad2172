use Rattle.section_view.proofs.Laws.Surviving as surviving
use Rattle.section_view.proofs.theorems.kept_runs_survive.Goals as goal

-- src/theorems.rt:57:1
pub returns : goal.returns
returns c = surviving.kept_survive
