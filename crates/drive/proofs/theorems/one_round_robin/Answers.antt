-- the list of a round robin is the only one
use Rattle.drive.proofs.RoundRobins.{one_round_robin}
use Rattle.drive.proofs.theorems.one_round_robin.Goals as goal

pub returns : goal.returns
returns c = one_round_robin
