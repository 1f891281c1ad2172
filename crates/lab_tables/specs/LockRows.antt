-- the rows of acquires
use Rattle.std.specs.Prelude.{ℕ, ◌≡◌, ◌<◌, All, List, map, slice_index, sum_by, if◌then◌else◌}
use Rattle.lab.specs.LockRows.{in_vain, lost_to, ran_for}
use Rattle.lab.specs.Firsts.{firsts}
use Rattle.lab.specs.Locks.{AreAcquiresOf, AreAmong, AreOnlyOf, all_acquires, same_acquire, tally_at}
use Rattle.lab.specs.declared.swaps.NotElided.{NotElided}
use Rattle.lab.specs.declared.swaps.NotElided.TheVariants.{PlainMode, Fallback, Confidence, NoCandidate}
use Rattle.lab.specs.declared.swaps.PlainSwap.{PlainSwap}
use Rattle.lab.specs.declared.tries.Acquire.{Acquire}
use Rattle.lab.specs.declared.tries.Try.{Try}
use Rattle.lab_tables.specs.declared.locks.LockKind.{LockKind}
use Rattle.lab_tables.specs.declared.locks.LockRow.{LockRow}
use Rattle.lab_tables.specs.declared.locks.PlainRuns.{PlainRuns}

-- how many sections of an acquire were lost to a hart
abbrev pub losses_at : ℕ → Acquire → List Try → ℕ
losses_at hart acquire tries =
    sum_by (λ try. if same_acquire try.acquire acquire then lost_to hart try.ended else 0) tries

-- how many instructions of its sections ran in vain
abbrev pub in_vain_at : Acquire → List Try → ℕ
in_vain_at acquire tries = sum_by (λ try. if same_acquire try.acquire acquire then in_vain try.ended else 0) tries

-- how often its swap ran plainly for a reason
abbrev pub plain_at : NotElided → Acquire → List PlainSwap → ℕ
plain_at why acquire swaps =
    sum_by (λ swap. if same_acquire swap.acquire acquire then ran_for why swap.why else 0) swaps

abbrev pub plain_runs : Acquire → List PlainSwap → PlainRuns
plain_runs acquire swaps = record {
  plain_mode = plain_at PlainMode acquire swaps;
  fallback = plain_at Fallback acquire swaps;
  confidence = plain_at Confidence acquire swaps;
  no_candidate = plain_at NoCandidate acquire swaps;
}

-- a row is what the sections and the swaps of its acquire came to
pub record IsLockRow (what : LockKind) (tries : List Try) (swaps : List PlainSwap) (row : LockRow) : Type 0 where
  pub kind : row.kind ≡ what
  pub sections : row.sections ≡ tally_at row.acquire tries
  pub lost_to : (hart : ℕ) → hart < 8 → slice_index row.lost_to hart ≡ losses_at hart row.acquire tries
  pub in_vain : row.in_vain ≡ in_vain_at row.acquire tries
  pub plain : row.plain ≡ plain_runs row.acquire swaps

abbrev pub acquires_in : List LockRow → List Acquire
acquires_in rows = map (λ row. row.acquire) rows

-- each acquire of these sections and swaps has one row, no other has one, and each row is that of its acquire; the rows
-- stand in the order of the acquires' first sections, and behind them in that of their first swaps
pub record AreLockRows (what : LockKind) (tries : List Try) (swaps : List PlainSwap)
    (rows : List LockRow) : Type 0 where
  pub sections : AreAcquiresOf tries (acquires_in rows)
  pub plain : AreAmong swaps (acquires_in rows)
  pub only : AreOnlyOf tries swaps (acquires_in rows)
  pub order : acquires_in rows ≡ firsts same_acquire (all_acquires tries swaps)
  pub right : All (IsLockRow what tries swaps) rows
