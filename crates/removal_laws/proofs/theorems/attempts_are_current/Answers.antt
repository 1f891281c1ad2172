use Rattle.removal_laws.proofs.Laws.Attempts as attempts
use Rattle.removal_laws.proofs.theorems.attempts_are_current.Goals as goal

-- src/theorems.rt:17:1
pub returns : goal.returns
returns c = attempts.attempts_are_current
