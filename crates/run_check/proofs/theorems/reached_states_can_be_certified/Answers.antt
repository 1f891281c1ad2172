use Rattle.run_check.proofs.Laws.ReachedStates.{reached_is_state}
use Rattle.run_check.proofs.theorems.reached_states_can_be_certified.Goals as goal

pub returns : goal.returns
returns c = reached_is_state
