use Rattle.section_laws.proofs.Laws.LetGone as let_gone
use Rattle.section_laws.proofs.theorems.armed_harts_wait_for_nothing.Goals as goal

-- src/theorems.rt:51:1
pub returns : goal.returns
returns c = let_gone.armed_harts_wait_for_nothing
