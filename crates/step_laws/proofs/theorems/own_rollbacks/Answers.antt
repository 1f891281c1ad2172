use Rattle.step_laws.proofs.OwnSteps as own_steps
use Rattle.step_laws.proofs.theorems.own_rollbacks.Goals as goal

pub returns : goal.returns
returns c = own_steps.own_rollbacks
