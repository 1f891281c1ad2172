use Rattle.section_laws.proofs.Laws.Numbered as numbered
use Rattle.section_laws.proofs.theorems.requests_are_numbered.Goals as goal

-- src/theorems.rt:61:1
pub returns : goal.returns
returns c = numbered.requests_are_numbered
