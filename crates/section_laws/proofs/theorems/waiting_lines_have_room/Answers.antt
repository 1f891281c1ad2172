use Rattle.section_laws.proofs.Laws.Bounds as bounds
use Rattle.section_laws.proofs.theorems.waiting_lines_have_room.Goals as goal

-- src/theorems.rt:116:1
pub returns : goal.returns
returns c = bounds.waiting_lines_have_room
