use Rattle.line_lanes.proofs.Ones.{spread_byte}
use Rattle.line_lanes.proofs.lanes.spread.Goals as goal

pub returns : goal.returns
returns c =
    λ place within. spread_byte c.args.bits c.from.result c.from-2.result place c.from.ensures c.from-2.ensures within
