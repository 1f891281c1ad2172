use Rattle.el_base.proofs.Laws.SameLosers.{same_losers}
use Rattle.el_base.proofs.losers.Losers.equal_by_winners.Goals as goal

pub returns : goal.returns
returns c = same_losers
