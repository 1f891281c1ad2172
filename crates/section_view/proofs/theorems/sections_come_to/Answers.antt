use Rattle.section_view.proofs.Laws.Shapes as shapes
use Rattle.section_view.proofs.theorems.sections_come_to.Goals as goal

-- src/theorems.rt:34:1
pub returns : goal.returns
returns c = shapes.comes_to
