use Rattle.section_laws.proofs.Laws.ArmedCounts as counts
use Rattle.section_laws.proofs.theorems.armed_sections_are_short.Goals as goal

-- src/theorems.rt:46:1
pub returns : goal.returns
returns c = counts.armed_sections_are_short
