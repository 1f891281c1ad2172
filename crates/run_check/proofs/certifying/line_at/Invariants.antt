use Rattle.std.proofs.Common.{◌≡◌, ℕ, ◌+◌, ◌*◌, ◌<◌, length}
use Rattle.std.specs.Prelude.{slice_index}
use Rattle.run_check.proofs.certifying.line_at.Given as goal

abbrev pub invariant-loop-place : goal.invariant-loop-place
invariant-loop-place g l = record {
  long : length l.bytes ≡ 64;
  read : (k : ℕ) → k < l.place → slice_index l.bytes k
      ≡ slice_index (g.R.Reached.state l.reached).bytes (64 * l.index + k);
}
