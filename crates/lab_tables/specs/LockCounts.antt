-- the counts that the rows of acquires are made of
use Rattle.std.specs.Prelude.{ℕ, ◌≡◌, List, Some, length, slice_get, slice_index}
use Rattle.lab.specs.LockRows.{AreInVain, AreLosses, ArePlain, AreRows, times_at}
use Rattle.lab.specs.declared.lock_rows.AcquireCounts.{AcquireCounts}
use Rattle.lab.specs.declared.swaps.NotElided.TheVariants.{PlainMode, Fallback, Confidence, NoCandidate}
use Rattle.lab.specs.declared.swaps.PlainSwap.{PlainSwap}
use Rattle.lab.specs.declared.tries.Acquire.{Acquire}
use Rattle.lab.specs.declared.tries.Try.{Try}
use Rattle.lab_tables.specs.declared.locks.Counts as code

-- the first of these counts are losses to the first harts
abbrev pub AreLossesBelow : List Try → List AcquireCounts → Type 0
AreLossesBelow tries lists = (hart : ℕ) (counts : AcquireCounts) → slice_get lists hart ≡ Some counts →
    AreLosses hart tries counts.times

-- losses to each hart
pub record AreLossesTo (tries : List Try) (lists : List AcquireCounts) : Type 0 where
  pub eight : length lists ≡ 8
  pub each : AreLossesBelow tries lists

-- these are the counts of some sections and swaps
pub record AreOf (tries : List Try) (swaps : List PlainSwap) (counts : code.Counts) : Type 0 where
  pub sections : AreRows tries counts.sections.rows
  pub lost_to : AreLossesTo tries counts.lost_to.items
  pub in_vain : AreInVain tries counts.in_vain.times
  pub plain_mode : ArePlain PlainMode swaps counts.plain_mode.times
  pub fallback : ArePlain Fallback swaps counts.fallback.times
  pub confidence : ArePlain Confidence swaps counts.confidence.times
  pub no_candidate : ArePlain NoCandidate swaps counts.no_candidate.times

-- these numbers are those of an acquire in each of the counts
abbrev pub ShowsEach : List AcquireCounts → Acquire → List ℕ → Type 0
ShowsEach lists acquire numbers =
    (hart : ℕ) (counts : AcquireCounts) → slice_get lists hart ≡ Some counts →
    slice_index numbers hart ≡ times_at counts.times acquire
