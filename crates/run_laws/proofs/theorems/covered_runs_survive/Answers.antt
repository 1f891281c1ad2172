use Rattle.run_laws.proofs.Laws.Survival as survival
use Rattle.run_laws.proofs.theorems.covered_runs_survive.Goals as goal

pub returns : goal.returns
returns c = survival.survives
