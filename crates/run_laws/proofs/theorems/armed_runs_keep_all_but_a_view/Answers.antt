use Rattle.run_laws.proofs.Laws.ButAView as but_a_view
use Rattle.run_laws.proofs.theorems.armed_runs_keep_all_but_a_view.Goals as goal

pub returns : goal.returns
returns c = but_a_view.armed_runs_keep_all_but_a_view
