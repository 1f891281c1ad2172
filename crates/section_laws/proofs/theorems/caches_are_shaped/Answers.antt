use Rattle.section_laws.proofs.Laws.Bounds as bounds
use Rattle.section_laws.proofs.theorems.caches_are_shaped.Goals as goal

-- src/theorems.rt:110:1
pub returns : goal.returns
returns c = bounds.caches_are_shaped
