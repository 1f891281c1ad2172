use Rattle.section_view.proofs.Laws.GoingOn as going_on
use Rattle.section_view.proofs.theorems.sections_go_on.Goals as goal

-- src/theorems.rt:46:1
pub returns : goal.returns
returns c = going_on.goes_on
