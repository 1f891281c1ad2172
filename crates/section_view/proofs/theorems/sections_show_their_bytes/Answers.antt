use Rattle.section_view.proofs.Laws.ShownBytes as shown_bytes
use Rattle.section_view.proofs.theorems.sections_show_their_bytes.Goals as goal

-- src/theorems.rt:28:1
pub returns : goal.returns
returns c = shown_bytes.shows_bytes
