-- the harts so far have their reservations back, and the others are as they were
use Rattle.std.proofs.Common.{◌≡◌, ◌<◌, ◌≤◌, ℕ}
use Rattle.std.specs.Prelude.{slice_index_or}
use Rattle.rv_flat.specs.Change.{reserved_in}
use Rattle.rv_flat.specs.FlatState.{no_hart}
use Rattle.rv_flat.proofs.flat_state.changes.put_back_reservations.Given as goal

abbrev pub invariant-loop-place : goal.invariant-loop-place
invariant-loop-place l = record {
  back : (hart : ℕ) → hart < l.place →
      slice_index_or l.harts hart no_hart
      ≡ record (slice_index_or l.initial.harts hart no_hart) { reserved = reserved_in l.change hart };
  as_were : (hart : ℕ) → l.place ≤ hart →
      slice_index_or l.harts hart no_hart ≡ slice_index_or l.initial.harts hart no_hart;
}
