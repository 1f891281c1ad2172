use Rattle.section_view.proofs.Laws.ShownBytes as shown_bytes
use Rattle.section_view.proofs.theorems.sections_do_as_shown.Goals as goal

-- src/theorems.rt:40:1
pub returns : goal.returns
returns c = shown_bytes.do_as_shown
