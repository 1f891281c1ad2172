use Rattle.section_laws.proofs.Laws.LetGone as let_gone
use Rattle.section_laws.proofs.theorems.armed_sections_have_one_read_bit.Goals as goal

-- src/theorems.rt:40:1
pub returns : goal.returns
returns c = let_gone.armed_sections_have_one_read_bit
