use Rattle.std.proofs.Common.{◌≡◌, ℕ, ◌<◌, Some, length}
use Rattle.std.specs.Prelude.{slice_get, slice_index}
use Rattle.lab.specs.LockRows.{times_at}
use Rattle.lab.specs.declared.lock_rows.AcquireCounts.{AcquireCounts}
use Rattle.lab_tables.proofs.locks.each_of.Given as goal

abbrev pub invariant-loop-hart : goal.invariant-loop-hart
invariant-loop-hart l = record {
  eight : length l.numbers ≡ 8;
  shown : (hart : ℕ) (counts : AcquireCounts) → hart < l.hart → slice_get l.lists hart ≡ Some counts →
      slice_index l.numbers hart ≡ times_at counts.times l.acquire;
}
