-- the losers among the harts below the number
use Rattle.snoop.proofs.LosersBelow.{AreLosersBelow}
use Rattle.snoop.specs.Fates.{fate_in}
use Rattle.snoop.proofs.settling.losers_by.Given as goal

abbrev pub invariant-loop-number : goal.invariant-loop-number
invariant-loop-number l = AreLosersBelow (fate_in l.fates) l.number l.losers
