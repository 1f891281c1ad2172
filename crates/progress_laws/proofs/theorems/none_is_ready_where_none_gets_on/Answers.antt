use Rattle.progress_laws.proofs.Ready as ready
use Rattle.progress_laws.proofs.theorems.none_is_ready_where_none_gets_on.Goals as goal

-- src/theorems.rt:16:1
pub returns : goal.returns
returns c = ready.none_is_ready_where_none_gets_on
