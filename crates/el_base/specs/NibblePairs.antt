-- Two small numbers in a byte.
use Rattle.std.specs.Prelude.{◌≡◌, ℕ, ◌≤◌, ◌<◌, ◌+◌, ◌*◌, ◌/◌, ◌%◌, ◌==◌, Bool, true, false, List, [], ◌∷◌}
use Rattle.std.specs.Prelude.{if◌then◌else◌, length, nat_lt}
use Rattle.std.specs.Prelude.{slice_index, min, refl}
use Rattle.std.proofs.Common.{arith, zero, suc}
use Rattle.std.proofs.Math.Nat.{min-le_right}
use Rattle.std.proofs.lemmas.Bool.{ltb-true, ltb-false}
use Rattle.std.proofs.lemmas.List.{get_or_past}

-- the number at this place of a list of pairs, two a byte; 0 past its end
abbrev pub nibble_in : List ℕ → ℕ → ℕ
nibble_in pairs h = if h % 2 == 0 then slice_index pairs (h / 2) % 16 else slice_index pairs (h / 2) / 16

-- two numbers as a byte, each cut at 15
abbrev pub pair_of : ℕ → ℕ → ℕ
pair_of low high = min low 15 + min high 15 * 16

-- the numbers that the map gives for places 0 to 7, two a byte
abbrev pub pairs_of : (ℕ → ℕ) → List ℕ
pairs_of number =
    pair_of (number 0) (number 1) ∷ pair_of (number 2) (number 3) ∷ pair_of (number 4) (number 5) ∷
    pair_of (number 6) (number 7) ∷ []

pub low_of_pair : (low high : ℕ) → pair_of low high % 16 ≡ min low 15
low_of_pair low high = omega (arith, min-le_right low 15)

pub high_of_pair : (low high : ℕ) → pair_of low high / 16 ≡ min high 15
high_of_pair low high = omega (arith, min-le_right low 15)

zero_chosen : (even : Bool) (pair : ℕ) → pair ≡ 0 → (if even then pair % 16 else pair / 16) ≡ 0
zero_chosen true pair none = rw none refl
zero_chosen false pair none = rw none refl

-- past the end of four bytes every number is 0
pub past_the_pairs : (pairs : List ℕ) (h : ℕ) → length pairs ≡ 4 → 8 ≤ h → nibble_in pairs h ≡ 0
past_the_pairs pairs h four past =
    zero_chosen (h % 2 == 0) (slice_index pairs (h / 2)) (get_or_past pairs (h / 2) 0 (omega (arith, four, past)))

-- the number at each place is that of the map, cut at 15
pub nibble_in-pairs_of : (number : ℕ → ℕ) (h : ℕ) → h < 8 → nibble_in (pairs_of number) h ≡ min (number h) 15
nibble_in-pairs_of number zero low = low_of_pair (number 0) (number 1)
nibble_in-pairs_of number (suc zero) low = high_of_pair (number 0) (number 1)
nibble_in-pairs_of number (suc (suc zero)) low = low_of_pair (number 2) (number 3)
nibble_in-pairs_of number (suc (suc (suc zero))) low = high_of_pair (number 2) (number 3)
nibble_in-pairs_of number (suc (suc (suc (suc zero)))) low = low_of_pair (number 4) (number 5)
nibble_in-pairs_of number (suc (suc (suc (suc (suc zero))))) low = high_of_pair (number 4) (number 5)
nibble_in-pairs_of number (suc (suc (suc (suc (suc (suc zero)))))) low = low_of_pair (number 6) (number 7)
nibble_in-pairs_of number (suc (suc (suc (suc (suc (suc (suc zero))))))) low = high_of_pair (number 6) (number 7)
nibble_in-pairs_of number (suc (suc (suc (suc (suc (suc (suc (suc h)))))))) low = absurd (omega arith)

within_if : (limit : ℕ) (number : ℕ → ℕ) → ((h : ℕ) → min (number h) 15 ≤ limit) → (h : ℕ) →
    (inside : Bool) → nat_lt h 8 ≡ inside → nibble_in (pairs_of number) h ≤ limit
within_if limit number small h true inside = rw (nibble_in-pairs_of number h (ltb-true h 8 inside)) (small h)
within_if limit number small h false past =
    rw (past_the_pairs (pairs_of number) h refl (ltb-false h 8 past)) (omega arith)

-- none is above a limit that none of the map's is above, each cut at 15
pub pairs_within : (limit : ℕ) (number : ℕ → ℕ) → ((h : ℕ) → min (number h) 15 ≤ limit) → (h : ℕ) →
    nibble_in (pairs_of number) h ≤ limit
pairs_within limit number small h = within_if limit number small h (nat_lt h 8) refl
