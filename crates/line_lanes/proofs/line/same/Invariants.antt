-- the bytes below the lane are the same
use Rattle.std.proofs.Common.{◌≡◌, ◌*◌, ◌<◌, ℕ, slice_index}
use Rattle.line_lanes.proofs.line.same.Given as goal

abbrev pub invariant-loop-lane : goal.invariant-loop-lane
invariant-loop-lane l = (k : ℕ) → k < 8 * l.lane → slice_index l.left k ≡ slice_index l.right k
