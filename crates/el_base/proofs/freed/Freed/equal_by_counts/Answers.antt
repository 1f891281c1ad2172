use Rattle.el_base.proofs.Laws.SameLosers.{same_freed}
use Rattle.el_base.proofs.freed.Freed.equal_by_counts.Goals as goal

pub returns : goal.returns
returns c = same_freed
