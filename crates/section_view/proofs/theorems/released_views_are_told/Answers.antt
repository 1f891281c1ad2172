use Rattle.section_view.proofs.Laws.Committing as committing
use Rattle.section_view.proofs.theorems.released_views_are_told.Goals as goal

-- src/theorems.rt:76:1
pub returns : goal.returns
returns c = committing.released_view_told
