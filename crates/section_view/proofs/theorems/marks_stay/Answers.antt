use Rattle.section_view.proofs.Laws.Surviving as surviving
use Rattle.section_view.proofs.theorems.marks_stay.Goals as goal

-- src/theorems.rt:51:1
pub returns : goal.returns
returns c = surviving.marks_stay
