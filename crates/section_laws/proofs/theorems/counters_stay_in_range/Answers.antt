use Rattle.section_laws.proofs.Counters as counters
use Rattle.section_laws.proofs.theorems.counters_stay_in_range.Goals as goal

-- src/theorems.rt:42:1
pub returns : goal.returns
returns c = counters.counters_stay_in_range
