use Rattle.section_view.proofs.Laws.Committing as committing
use Rattle.section_view.proofs.theorems.sections_commit.Goals as goal

-- src/theorems.rt:70:1
pub returns : goal.returns
returns c = committing.commits
