use Rattle.lab_run.proofs.OneList.{one_drawn_run}
use Rattle.lab_run.proofs.theorems.one_run_of_a_seed.Goals as goal

pub returns : goal.returns
returns c = one_drawn_run
