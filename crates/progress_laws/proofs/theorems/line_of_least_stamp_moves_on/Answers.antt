use Rattle.progress_laws.proofs.Laws.LineOfLeast as line_of_least
use Rattle.progress_laws.proofs.theorems.line_of_least_stamp_moves_on.Goals as goal

-- src/theorems.rt:39:1
pub returns : goal.returns
returns c = line_of_least.line_of_least_stamp_moves_on
