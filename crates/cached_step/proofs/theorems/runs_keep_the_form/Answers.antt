-- the law itself
use Rattle.cached_step.proofs.Laws.Rooms.{stays_in_form}
use Rattle.cached_step.proofs.theorems.runs_keep_the_form.Goals as goal

pub returns : goal.returns
returns c = stays_in_form
