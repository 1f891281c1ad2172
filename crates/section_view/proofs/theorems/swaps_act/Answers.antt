use Rattle.section_view.proofs.Laws.Releasing as releasing
use Rattle.section_view.proofs.theorems.swaps_act.Goals as goal

-- src/theorems.rt:22:1
pub returns : goal.returns
returns c = releasing.swaps_act
