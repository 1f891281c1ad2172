use Rattle.section_laws.proofs.Laws.Coherence as coherence
use Rattle.section_laws.proofs.theorems.written_lines_are_elsewhere_in_no_cache.Goals as goal

-- src/theorems.rt:98:1
pub returns : goal.returns
returns c = coherence.written_lines_are_elsewhere_in_no_cache
