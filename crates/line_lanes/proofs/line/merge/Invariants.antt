-- the bytes below the lane are merged, and the others are as they were
use Rattle.std.proofs.Common.{◌≡◌, ◌*◌, ◌≤◌, ◌<◌, ℕ, slice_index}
use Rattle.line_lanes.specs.Merged.{merged_byte}
use Rattle.line_lanes.proofs.line.merge.Given as goal

abbrev pub invariant-loop-lane : goal.invariant-loop-lane
invariant-loop-lane l = record {
  merged : (k : ℕ) → k < 8 * l.lane → slice_index l.line k ≡ merged_byte l.fn.line l.over l.mask k;
  others : (k : ℕ) → 8 * l.lane ≤ k → slice_index l.line k ≡ slice_index l.fn.line k;
}
