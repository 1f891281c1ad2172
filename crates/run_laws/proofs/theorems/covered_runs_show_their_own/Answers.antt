use Rattle.run_laws.proofs.Laws.Shown as shown
use Rattle.run_laws.proofs.theorems.covered_runs_show_their_own.Goals as goal

pub returns : goal.returns
returns c = shown.shows_its_own
