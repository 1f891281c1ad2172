-- a number that is added to that of an acquire
use Rattle.std.proofs.Common.{◌≡◌, ◌∙◌, ℕ, ◌+◌, ◌<◌, Bool, true, false, cond, List, Some, length, take, get_or, refl}
use Rattle.std.proofs.Common.{ap, subst, sym, add-zero, unwrap_or}
use Rattle.std.specs.HashMap.{HashMap, get}
use Rattle.chronicle.proofs.Laws.Tallies.{plus_nothing, plus_small}
use Rattle.chronicle.specs.Tally.{IsTallyOf, nothing, plus}
use Rattle.chronicle.specs.declared.tally.Tally.{Tally}
use Rattle.lab.proofs.Classes.{acquire_is}
use Rattle.lab.proofs.Rows.{row_more}
use Rattle.lab.specs.Counts.{of_end}
use Rattle.lab.specs.LockRows.{row_at, times_at}
use Rattle.lab.specs.Locks.{of_acquire, same_acquire, same_pair, tally_at}
use Rattle.lab.specs.declared.tries.Acquire.{Acquire}
use Rattle.lab.specs.declared.tries.Try.{Try}

pub added : {S : Type 0} (old new : HashMap (ℕ × ℕ) ℕ S) (acquire other : Acquire) (now amount : ℕ) →
    now ≡ times_at old acquire + amount →
    get same_pair new (other.pc, other.word) ≡ cond (same_acquire acquire other) (Some now)
    (get same_pair old (other.pc, other.word)) →
    times_at new other ≡ times_at old other + cond (same_acquire acquire other) amount 0
added old new acquire other now amount sum is = by (same_acquire acquire other) refl is
  where
    by : (b : Bool) → same_acquire acquire other ≡ b →
        get same_pair new (other.pc, other.word) ≡ cond b (Some now) (get same_pair old (other.pc, other.word)) →
        times_at new other ≡ times_at old other + cond b amount 0
    by true e is = ap (λ o. unwrap_or o 0) is ∙ sum ∙ ap (λ a. times_at old a + amount) (acquire_is acquire other e)
    by false e is = ap (λ o. unwrap_or o 0) is ∙ sym (add-zero (times_at old other))

-- one section more, in the rows
pub row_put : {S : Type 0} (old new : HashMap (ℕ × ℕ) Tally S) (tries : List Try) (place : ℕ) (try : Try)
    (other : Acquire) (row : Tally) → place < length tries → try ≡ get_or tries place try →
    row ≡ plus (row_at old try.acquire) (of_acquire try.acquire try) →
    ((acquire : Acquire) → row_at old acquire ≡ tally_at acquire (take place tries)) →
    get same_pair new (other.pc, other.word) ≡ cond (same_acquire try.acquire other) (Some row)
    (get same_pair old (other.pc, other.word)) → row_at new other ≡ tally_at other (take (place + 1) tries)
row_put old new tries place try other row below here sum before is = by (same_acquire try.acquire other) refl is
  where
    more : (acquire : Acquire) →
        plus (tally_at acquire (take place tries)) (of_acquire acquire try) ≡ tally_at acquire (take (place + 1) tries)
    more acquire = row_more acquire tries place try below here

    by : (b : Bool) → same_acquire try.acquire other ≡ b →
        get same_pair new (other.pc, other.word) ≡ cond b (Some row) (get same_pair old (other.pc, other.word)) →
        row_at new other ≡ tally_at other (take (place + 1) tries)
    by true e is =
        ap (λ o. unwrap_or o nothing) is ∙ sum
        ∙ ap (λ (a : Acquire). plus (row_at old a) (of_acquire a try)) (acquire_is try.acquire other e)
        ∙ ap (λ t. plus t (of_acquire other try)) (before other) ∙ more other
    by false e is =
        ap (λ o. unwrap_or o nothing) is ∙ before other
        ∙ sym (plus_nothing (tally_at other (take place tries)))
        ∙ ap (λ b. plus (tally_at other (take place tries)) (cond b (record (of_end try.ended) { began = 1 }) nothing))
        (sym e)
        ∙ more other

none_is_one : IsTallyOf 1 nothing
unfolding IsTallyOf
none_is_one = refl

-- and a row is one of so many sections
pub row_small : {S : Type 0} (old new : HashMap (ℕ × ℕ) Tally S) (n : ℕ) (acquire other : Acquire)
    (was counts row : Tally) → was ≡ row_at old acquire → row ≡ plus was counts →
    ((a : Acquire) → IsTallyOf n (row_at old a)) → IsTallyOf 1 counts →
    get same_pair new (other.pc, other.word) ≡ cond (same_acquire acquire other) (Some row)
    (get same_pair old (other.pc, other.word)) → IsTallyOf (n + 1) (row_at new other)
row_small old new n acquire other was counts row at sum small one is = by (same_acquire acquire other) is
  where
    by : (b : Bool) → get same_pair new (other.pc, other.word) ≡ cond b (Some row)
        (get same_pair old (other.pc, other.word)) → IsTallyOf (n + 1) (row_at new other)
    by true is =
        subst (IsTallyOf (n + 1)) (sym (ap (λ o. unwrap_or o nothing) is ∙ sum ∙ ap (λ t. plus t counts) at))
        (plus_small n (row_at old acquire) counts (small acquire) one)
    by false is =
        subst (IsTallyOf (n + 1)) (sym (ap (λ o. unwrap_or o nothing) is ∙ sym (plus_nothing (row_at old other))))
        (plus_small n (row_at old other) nothing (small other) none_is_one)
