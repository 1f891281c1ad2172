use Rattle.line_lanes.proofs.Bytes.{byte_merged}
use Rattle.line_lanes.proofs.lanes.merge_lane.Goals as goal

pub returns : goal.returns
returns c =
    λ place within. byte_merged place c.args.under c.args.over c.spread.result c.args.bits
    (c.spread.ensures place within)
