use Rattle.section_view.proofs.Laws.Shapes as shapes
use Rattle.section_view.proofs.theorems.armed_sections_come_to.Goals as goal

pub returns : goal.returns
returns c = shapes.armed_comes_to
