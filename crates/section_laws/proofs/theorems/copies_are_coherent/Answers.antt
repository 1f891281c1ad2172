use Rattle.section_laws.proofs.Laws.Coherence as coherence
use Rattle.section_laws.proofs.theorems.copies_are_coherent.Goals as goal

-- src/theorems.rt:88:1
pub returns : goal.returns
returns c = coherence.copies_are_coherent
