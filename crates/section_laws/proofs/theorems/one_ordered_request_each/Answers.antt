use Rattle.section_laws.proofs.Laws.Numbered as numbered
use Rattle.section_laws.proofs.theorems.one_ordered_request_each.Goals as goal

-- src/theorems.rt:55:1
pub returns : goal.returns
returns c = numbered.one_ordered_request_each
