use Rattle.section_laws.proofs.Laws.Bounds as bounds
use Rattle.section_laws.proofs.theorems.waiting_writes_are_spared.Goals as goal

-- src/theorems.rt:127:1
pub returns : goal.returns
returns c = bounds.waiting_writes_are_spared
