-- nobody has lost
use Rattle.snoop.proofs.LosersBelow.{nobody_lost}
use Rattle.snoop.proofs.face.Met.nobody.Goals as goal

pub returns-clause-losers : goal.returns-clause-losers
returns-clause-losers c = nobody_lost c.none.result c.none.ensures
