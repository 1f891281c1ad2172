use Rattle.removal_laws.proofs.Endings as endings
use Rattle.removal_laws.proofs.theorems.least_ends_its_own_section.Goals as goal

-- src/theorems.rt:79:1
pub returns : goal.returns
returns c = endings.least_ends_its_own_section
