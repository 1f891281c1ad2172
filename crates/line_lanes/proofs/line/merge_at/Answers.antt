use Rattle.line_lanes.proofs.Puts.{merged_from}
use Rattle.line_lanes.proofs.line.merge_at.Goals as goal

pub returns : goal.returns
returns c =
    merged_from c.args.place c.args.mask c.merged_lane-merged.result c.args.line.now c.put_lane.new.line c.args.over.now
    c.put_lane.ensures
    c.merged_lane-merged.ensures
