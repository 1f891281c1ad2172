use Rattle.section_laws.proofs.Laws.Bounds as bounds
use Rattle.section_laws.proofs.theorems.written_lines_are_few.Goals as goal

-- src/theorems.rt:121:1
pub returns : goal.returns
returns c = bounds.written_lines_are_few
