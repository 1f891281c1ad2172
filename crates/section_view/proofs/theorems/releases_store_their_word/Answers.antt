use Rattle.section_view.proofs.Laws.Releasing as releasing
use Rattle.section_view.proofs.theorems.releases_store_their_word.Goals as goal

-- src/theorems.rt:62:1
pub returns : goal.returns
returns c = releasing.release_actions
