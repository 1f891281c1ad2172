use Rattle.progress_laws.proofs.Laws.EveryMode as every_mode
use Rattle.progress_laws.proofs.theorems.no_state_is_stuck.Goals as goal

-- src/theorems.rt:28:1
pub returns : goal.returns
returns c = every_mode.no_state_is_stuck
