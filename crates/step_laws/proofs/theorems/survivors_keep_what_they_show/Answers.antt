use Rattle.step_laws.proofs.Laws.Survivors as survivors
use Rattle.step_laws.proofs.theorems.survivors_keep_what_they_show.Goals as goal

pub returns : goal.returns
returns c = survivors.survivors_keep_what_they_show
