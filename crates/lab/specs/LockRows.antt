-- rows of acquires
use Rattle.std.specs.Prelude.{ℕ, ◌≡◌, ◌==◌, Bool, true, false, List, sum_by, unwrap_or, if◌then◌else◌}
use Rattle.std.specs.HashMap.{HashMap, get}
use Rattle.chronicle.specs.Tally.{nothing}
use Rattle.chronicle.specs.declared.tally.Tally.{Tally}
use Rattle.lab.specs.Locks.{same_acquire, same_pair, tally_at}
use Rattle.lab.specs.declared.swaps.NotElided.{NotElided}
use Rattle.lab.specs.declared.swaps.NotElided.TheVariants.{PlainMode, Fallback, Confidence, NoCandidate}
use Rattle.lab.specs.declared.swaps.PlainSwap.{PlainSwap}
use Rattle.lab.specs.declared.tries.Acquire.{Acquire}
use Rattle.lab.specs.declared.tries.Ended.{Ended}
use Rattle.lab.specs.declared.tries.Ended.TheVariants.{LostTo, RolledBack}
use Rattle.lab.specs.declared.tries.Try.{Try}

-- the row of an acquire in a map by address and lock word; where there is none, one that says nothing
abbrev pub row_at : {S : Type 0} → HashMap (ℕ × ℕ) Tally S → Acquire → Tally
row_at rows acquire = unwrap_or (get same_pair rows (acquire.pc, acquire.word)) nothing

-- each row is what the sections of its acquire came to
abbrev pub AreRows : {S : Type 0} → List Try → HashMap (ℕ × ℕ) Tally S → Type 0
AreRows tries rows = (acquire : Acquire) → row_at rows acquire ≡ tally_at acquire tries

-- the number of an acquire in such a map
abbrev pub times_at : {S : Type 0} → HashMap (ℕ × ℕ) ℕ S → Acquire → ℕ
times_at times acquire = unwrap_or (get same_pair times (acquire.pc, acquire.word)) 0

-- 1 where a section was lost to this hart, and else 0
abbrev pub lost_to : ℕ → Ended → ℕ
lost_to hart (LostTo at ran winner line) = if winner.number == hart then 1 else 0
lost_to hart _ = 0

-- each number is that of the sections of its acquire that were lost to a hart
abbrev pub AreLosses : {S : Type 0} → ℕ → List Try → HashMap (ℕ × ℕ) ℕ S → Type 0
AreLosses hart tries times =
    (acquire : Acquire) →
    times_at times acquire ≡ sum_by (λ try. if same_acquire try.acquire acquire then lost_to hart try.ended else 0)
    tries

-- the instructions of a section that was lost or rolled back
abbrev pub in_vain : Ended → ℕ
in_vain (LostTo at ran winner line) = ran
in_vain (RolledBack at ran cause) = ran
in_vain _ = 0

-- each number is the sum of those of its acquire
abbrev pub AreInVain : {S : Type 0} → List Try → HashMap (ℕ × ℕ) ℕ S → Type 0
AreInVain tries times =
    (acquire : Acquire) →
    times_at times acquire ≡ sum_by (λ try. if same_acquire try.acquire acquire then in_vain try.ended else 0) tries

abbrev pub is_same_reason : NotElided → NotElided → Bool
is_same_reason PlainMode PlainMode = true
is_same_reason Fallback Fallback = true
is_same_reason Confidence Confidence = true
is_same_reason NoCandidate NoCandidate = true
is_same_reason _ _ = false

-- 1 where a swap ran for this reason, and else 0
abbrev pub ran_for : NotElided → NotElided → ℕ
ran_for why reason = if is_same_reason reason why then 1 else 0

-- each number is that of the swaps of its acquire that ran for a reason
abbrev pub ArePlain : {S : Type 0} → NotElided → List PlainSwap → HashMap (ℕ × ℕ) ℕ S → Type 0
ArePlain why swaps times =
    (acquire : Acquire) →
    times_at times acquire ≡ sum_by (λ swap. if same_acquire swap.acquire acquire then ran_for why swap.why else 0)
    swaps
