-- the harts so far that have a reservation
use Rattle.std.proofs.Common.{◌≡◌, ◌<◌, ◌≤◌, ℕ, false}
use Rattle.std.specs.Prelude.{is_some, slice_index_or}
use Rattle.el_base.specs.Harts.{has_hart}
use Rattle.rv_flat.specs.FlatState.{no_hart}
use Rattle.rv_flat.proofs.flat_state.changes.holders.Given as goal

abbrev pub invariant-loop-place : goal.invariant-loop-place
invariant-loop-place l = record {
  so_far : (hart : ℕ) → hart < l.place →
      has_hart l.holders hart ≡ is_some (slice_index_or l.harts hart no_hart).reserved;
  no_other : (hart : ℕ) → l.place ≤ hart → has_hart l.holders hart ≡ false;
}
