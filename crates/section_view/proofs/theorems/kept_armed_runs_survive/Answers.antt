use Rattle.section_view.proofs.Laws.Surviving as surviving
use Rattle.section_view.proofs.theorems.kept_armed_runs_survive.Goals as goal

pub returns : goal.returns
returns c = surviving.kept_armed_survive
