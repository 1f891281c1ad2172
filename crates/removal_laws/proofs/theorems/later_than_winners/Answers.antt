use Rattle.removal_laws.proofs.Laws.Promises as promises
use Rattle.removal_laws.proofs.theorems.later_than_winners.Goals as goal

-- src/theorems.rt:44:1
pub returns : goal.returns
returns c = promises.later_than_winners
