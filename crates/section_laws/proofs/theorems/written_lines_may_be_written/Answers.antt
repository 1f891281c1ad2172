use Rattle.section_laws.proofs.Laws.Coherence as coherence
use Rattle.section_laws.proofs.theorems.written_lines_may_be_written.Goals as goal

-- src/theorems.rt:93:1
pub returns : goal.returns
returns c = coherence.written_lines_may_be_written
