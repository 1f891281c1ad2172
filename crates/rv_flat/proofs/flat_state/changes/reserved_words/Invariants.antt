-- the reserved words of the harts so far
use Rattle.std.proofs.Common.{◌≡◌, ◌<◌, ◌≤◌, ℕ, length}
use Rattle.std.specs.Prelude.{slice_index, slice_index_or}
use Rattle.std.specs.Option.{unwrap_or}
use Rattle.rv_flat.specs.FlatState.{no_hart}
use Rattle.rv_flat.proofs.flat_state.changes.reserved_words.Given as goal

abbrev pub invariant-loop-place : goal.invariant-loop-place
invariant-loop-place l = record {
  eight : length l.words ≡ 8;
  so_far : (hart : ℕ) → hart < l.place →
      slice_index l.words hart ≡ unwrap_or (slice_index_or l.harts hart no_hart).reserved 0;
  no_other : (hart : ℕ) → l.place ≤ hart → slice_index l.words hart ≡ 0;
}
