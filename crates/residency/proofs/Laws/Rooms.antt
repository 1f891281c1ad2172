-- Where a set or a cache has room for a line.
use Rattle.std.proofs.Common.{◌≡◌, ℕ, ◌<◌, ◌||◌, Bool, true, false, List, length, is_some, refl, arith, ◌≤◌, [], ◌∷◌}
use Rattle.std.proofs.Common.{map, ◌∙◌, ap, cond}
use Rattle.std.proofs.lemmas.Bool.Decides.{nat_tests}
use Rattle.std.proofs.lemmas.List.{get_or-map, length-map}
use Rattle.std.specs.Prelude.{nat_lt}
use Rattle.std.specs.List.{list_any}
use Rattle.residency.specs.Residency.{Way, has_unmarked, is_marked, room_in, way_in, without_bits}
use Rattle.residency.specs.Cache.{cleared, has_marks, room_of, set_number, set_of}
use Rattle.residency.proofs.Laws.Unmarked.{bare_at}

-- a set has room where it has a way to spare, or a line without bits
pub room_by_spare : (ways : ℕ) (set : List Way) (line : ℕ) → length set < ways → room_in ways set line ≡ true
room_by_spare ways set line fewer =
    by (is_some (way_in set line)) (nat_lt (length set) ways) (has_unmarked set) (grind (arith, nat_tests))
  where
    by : (a b c : Bool) → b ≡ true → (a || b || c) ≡ true
    by true b c is = refl
    by false true c is = refl
    by false false c is = absurd (cc)

pub room_by_unmarked : (ways : ℕ) (set : List Way) (line : ℕ) → has_unmarked set ≡ true → room_in ways set line ≡ true
room_by_unmarked ways set line free = by (is_some (way_in set line)) (nat_lt (length set) ways) (has_unmarked set) free
  where
    by : (a b c : Bool) → c ≡ true → (a || b || c) ≡ true
    by true b c is = refl
    by false true c is = refl
    by false false c is = is

-- a set or a cache whose bits were cleared has room for each line, where it has a way
pub room_without_bits : (ways : ℕ) (set : List Way) (line : ℕ) → 1 ≤ ways →
    room_in ways (map without_bits set) line ≡ true
room_without_bits ways [] line some = room_by_spare ways [] line some
room_without_bits ways (way ∷ set) line some = room_by_unmarked ways (map without_bits (way ∷ set)) line refl

pub set_of_cleared : (cache : List (List Way)) (line : ℕ) →
    set_of (cleared cache) line ≡ map without_bits (set_of cache line)
set_of_cleared [] line = refl
set_of_cleared (first ∷ cache) line =
    let whole = first ∷ cache in
    rw (length-map whole (map without_bits))
    (get_or-map (map without_bits) whole (set_number whole line) [] [] (omega arith))

pub room_cleared : (ways : ℕ) (cache : List (List Way)) (line : ℕ) → 1 ≤ ways → room_of ways (cleared cache) line ≡ true
room_cleared ways cache line some =
    ap (λ set. room_in ways set line) (set_of_cleared cache line) ∙ room_without_bits ways (set_of cache line) line some

-- and so has one that has no bits
pub room_in_without_marks : (ways : ℕ) (set : List Way) (line : ℕ) → 1 ≤ ways → list_any is_marked set ≡ false →
    room_in ways set line ≡ true
room_in_without_marks ways [] line some bare = room_by_spare ways [] line some
room_in_without_marks ways (way ∷ set) line some bare =
    room_by_unmarked ways (way ∷ set) line (by (is_marked way) (list_any is_marked set) bare)
  where
    by : (marked later : Bool) → (marked || later) ≡ false → cond marked (has_unmarked set) true ≡ true
    by true later is = absurd (cc)
    by false later is = refl

pub room_without_marks : (ways : ℕ) (cache : List (List Way)) (line : ℕ) → 1 ≤ ways → has_marks cache ≡ false →
    room_of ways cache line ≡ true
room_without_marks ways cache line some bare =
    room_in_without_marks ways (set_of cache line) line some (bare_at cache (set_number cache line) bare)
