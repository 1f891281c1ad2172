use Rattle.section_view.proofs.Laws.Beginning as beginning
use Rattle.section_view.proofs.theorems.sections_begin.Goals as goal

-- src/theorems.rt:17:1
pub returns : goal.returns
returns c = beginning.begins
