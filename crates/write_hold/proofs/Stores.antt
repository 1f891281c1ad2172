-- What an entry has after bytes were stored in it, and a line after those of an entry were merged into it.
use Rattle.std.proofs.Common.{◌≡◌, ℕ, ◌+◌, ◌-◌, ◌<◌, ◌≤◌, ◌==◌, ◌&&◌, ◌||◌, nat_le, nat_lt, if◌then◌else◌, Bool, true}
use Rattle.std.proofs.Common.{false, List, ◌++◌, drop}
use Rattle.std.proofs.Common.{length, take, slice_index, Some, bit_or, refl, inl, inr, ap, ◌∙◌, arith}
use Rattle.std.specs.Int.{bit_at}
use Rattle.std.proofs.lemmas.Bool.{cases_lt}
use Rattle.std.proofs.lemmas.Bool.Decides.{nat_tests}
use Rattle.std.proofs.lemmas.Grind.{common_steps}
use Rattle.el_base.proofs.Laws.BitSets.{bit_in_or}
use Rattle.el_base.specs.Firsts.{some_if}
use Rattle.write_hold.specs.Held.{laid}

-- a list after some bytes took the place of others
abbrev put_at : ℕ → List ℕ → List ℕ → List ℕ
put_at offset bytes old = take offset old ++ (bytes ++ drop (length bytes) (drop offset old))

module _ (offset : ℕ) (bytes old : List ℕ) (inside : offset + length bytes ≤ length old) (place : ℕ) where
  put_below : place < offset → slice_index (put_at offset bytes old) place ≡ slice_index old place
  put_below below = grind (arith, common_steps)

  put_inside : offset ≤ place → place < offset + length bytes →
      slice_index (put_at offset bytes old) place ≡ slice_index bytes (place - offset)
  put_inside past before = grind (arith, common_steps)

  put_above : offset + length bytes ≤ place → slice_index (put_at offset bytes old) place ≡ slice_index old place
  put_above beyond = grind (arith, common_steps)

-- a place inside of what was put, and one outside
written : (within : Bool) (new old put : ℕ) → (within ≡ true → new ≡ put) → (within ≡ false → new ≡ old)
    → Some new ≡ (if within then Some put else Some old)
written true new old put inside outside = ap Some (inside refl)
written false new old put inside outside = ap Some (outside refl)

-- the list at each place: what was laid over it
pub written_over : (offset place : ℕ) (bytes old now : List ℕ) → offset + length bytes ≤ length old →
    now ≡ put_at offset bytes old
    → Some (slice_index now place) ≡ laid offset bytes place (Some (slice_index old place))
written_over offset place bytes old now inside is =
    written (nat_le offset place && nat_lt place (offset + length bytes)) (slice_index now place)
    (slice_index old place)
    (slice_index bytes (place - offset)) (λ within. ap (λ l. slice_index l place) is ∙ there within)
    (λ beyond. ap (λ l. slice_index l place) is ∙ elsewhere beyond)
  where
    there : (nat_le offset place && nat_lt place (offset + length bytes)) ≡ true
        → slice_index (put_at offset bytes old) place ≡ slice_index bytes (place - offset)
    there within = put_inside offset bytes old inside place (grind (arith, nat_tests)) (grind (arith, nat_tests))

    elsewhere : (nat_le offset place && nat_lt place (offset + length bytes)) ≡ false →
        slice_index (put_at offset bytes old) place ≡ slice_index old place
    elsewhere beyond = elim (cases_lt place offset) [
      | inl below ↦ put_below offset bytes old inside place below
      | inr past ↦ put_above offset bytes old inside place (grind (arith, nat_tests))
    ]

-- it is stored where it was before, or is among the new ones
chosen : (was within : Bool) (new old put : ℕ) → Some new ≡ (if within then Some put else Some old)
    → some_if (was || within) new ≡ (if within then Some put else some_if was old)
chosen true true new old put is = is
chosen false true new old put is = is
chosen true false new old put is = is
chosen false false new old put is = refl

pub stored_over : (offset place mask run : ℕ) (bytes old now : List ℕ)
    → Some (slice_index now place) ≡ laid offset bytes place (Some (slice_index old place))
    → (bit_at run place == 1) ≡ (nat_le offset place && nat_lt place (offset + length bytes))
    → some_if (bit_at (bit_or mask run) place == 1) (slice_index now place)
    ≡ laid offset bytes place (some_if (bit_at mask place == 1) (slice_index old place))
stored_over offset place mask run bytes old now is marked =
    ap (λ known. some_if known (slice_index now place))
    (bit_in_or mask run place ∙ ap (λ within. bit_at mask place == 1 || within) marked)
    ∙ chosen (bit_at mask place == 1) (nat_le offset place && nat_lt place (offset + length bytes))
    (slice_index now place)
    (slice_index old place) (slice_index bytes (place - offset)) is
