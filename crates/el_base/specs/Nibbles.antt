-- A small number for each hart.
use Rattle.std.specs.Prelude.{ℕ, List, [], ◌∷◌, slice_index, refl}
use Rattle.std.proofs.Math.Nat.{min-le_right}
use Rattle.el_base.specs.NibblePairs.{nibble_in, pairs_of, pairs_within}
use Rattle.el_base.specs.declared.nibbles.Nibbles.{Nibbles}

-- the number of this hart; 0 for what no hart has
abbrev pub nibble_of : Nibbles → ℕ → ℕ
nibble_of nibbles h = nibble_in nibbles.pairs h

-- what the map gives for harts 0 to 7
abbrev pub first_eight : {A : Type 0} → (ℕ → A) → List A
first_eight map = map 0 ∷ map 1 ∷ map 2 ∷ map 3 ∷ map 4 ∷ map 5 ∷ map 6 ∷ map 7 ∷ []

-- the numbers of the first eight of a list, each cut at 15
abbrev pub nibbles_to : List ℕ → Nibbles
nibbles_to numbers = record {
  pairs = pairs_of (slice_index numbers);
  one_byte_for_two = refl;
  each_fits = pairs_within 15 (slice_index numbers) (λ h. min-le_right (slice_index numbers h) 15);
}
