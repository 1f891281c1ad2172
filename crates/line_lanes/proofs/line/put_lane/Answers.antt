use Rattle.std.proofs.Common.{◌∙◌, refl, arith}
use Rattle.line_lanes.proofs.Puts.{was_put}
use Rattle.line_lanes.proofs.line.put_lane.Goals as goal

pub returns : goal.returns
returns c =
    was_put c.args.place c.args.lane c.copy_from_slice.new.self c.args.line.now _ (omega arith)
    (c.copy_from_slice.ensures.after ∙ c.to_le_bytes.ensures) refl
