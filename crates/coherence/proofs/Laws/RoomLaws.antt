-- what the bits of a cache leave of its room for a line
use Rattle.std.proofs.Common.{◌≡◌, ◌≢◌, ◌∙◌, ◌<◌, ◌||◌, ◌==◌, if◌then◌else◌, arith, ap, refl, sym, inl, inr}
use Rattle.std.proofs.Common.{ℕ, suc, Bool, true, false, List, [], ◌∷◌, length, map, Option, None, Some, is_some}
use Rattle.std.proofs.Common.{option_map}
use Rattle.std.specs.Prelude.{nat_lt, slice_index_or}
use Rattle.std.proofs.lemmas.Bool.{cases_eq}
use Rattle.residency.specs.Cache.{cleared, is_resident, marked, room_of, set_number, set_of, way_of}
use Rattle.residency.specs.Residency.{Way, changed_in, has_unmarked, room_in, way_in, with_bit, without_bits}
use Rattle.residency.proofs.Laws.CacheLemmas.{set_of-with_set_other, set_of-with_set_same, way_of-marked_other}
use Rattle.residency.proofs.Laws.CacheLemmas.{way_of-marked_same}
use Rattle.residency.proofs.Laws.Rooms.{room_by_spare, room_by_unmarked, set_of_cleared}
use Rattle.el_base.specs.declared.outcomes.Need.{Need}

-- a set has room for a line that it has
first_of : (a b c : Bool) → a ≡ true → (a || b || c) ≡ true
first_of true b c is = refl
first_of false b c is = absurd (cc)

-- a set whose bits were cleared has room for those lines for which it had room, and so has a cache
bare_keeps_room : (ways : ℕ) (set : List Way) (line : ℕ) → room_in ways set line ≡ true →
    room_in ways (map without_bits set) line ≡ true
bare_keeps_room ways [] line room = room
bare_keeps_room ways (way ∷ set) line room = room_by_unmarked ways (map without_bits (way ∷ set)) line refl

pub room_after_clear : (ways : ℕ) (cache : List (List Way)) (line : ℕ) → room_of ways cache line ≡ true →
    room_of ways (cleared cache) line ≡ true
room_after_clear ways cache line room =
    ap (λ set. room_in ways set line) (set_of_cleared cache line) ∙ bare_keeps_room ways (set_of cache line) line room

-- the cache has a line that got a bit, and every other one, as before
pub resident_after_mark : (cache : List (List Way)) (line l : ℕ) (need : Need) →
    is_resident (marked cache line need) l ≡ is_resident cache l
resident_after_mark cache line l need =
    elim (cases_eq l line) [
      | inl same ↦ rw same (ap is_some (way_of-marked_same cache line need) ∙ still (way_of cache line))
      | inr other ↦ ap is_some (way_of-marked_other cache line l need other)
    ]
  where
    still : (way : Option Way) → is_some (option_map (with_bit need) way) ≡ is_some way
    still None = refl
    still (Some way) = refl

-- it has room still for a line that it has, the one with the new bit among them
pub room_after_mark : (ways : ℕ) (cache : List (List Way)) (line l : ℕ) (need : Need) → is_resident cache l ≡ true →
    room_of ways (marked cache line need) l ≡ true
room_after_mark ways cache line l need resident =
    let set = set_of (marked cache line need) l in
    first_of (is_some (way_in set l)) (nat_lt (length set) ways) (has_unmarked set)
    (resident_after_mark cache line l need ∙ resident)

-- for a line of another set as before
pub room_after_mark_elsewhere : (ways : ℕ) (cache : List (List Way)) (line l : ℕ) (need : Need) →
    set_number cache l ≢ set_number cache line → room_of ways (marked cache line need) l ≡ room_of ways cache l
room_after_mark_elsewhere ways cache line l need other =
    ap (λ set. room_in ways set l)
    (set_of-with_set_other cache line l (changed_in (with_bit need) (set_of cache line) line) other)

length_changed_in : (change : Way → Way) (set : List Way) (line : ℕ) → length (changed_in change set line) ≡ length set
length_changed_in change [] line = refl
length_changed_in change (way ∷ set) line = by (way.line == line) (length_changed_in change set line)
  where
    by : (same : Bool) → length (changed_in change set line) ≡ length set →
        length (if same then change way ∷ changed_in change set line else way ∷ changed_in change set line)
        ≡ suc (length set)
    by true rest = ap suc rest
    by false rest = ap suc rest

length_marked_set : (cache : List (List Way)) (line l : ℕ) (need : Need) →
    length (set_of (marked cache line need) l) ≡ length (set_of cache l)
length_marked_set [] line l need = refl
length_marked_set (first ∷ cache) line l need =
    let whole = first ∷ cache in
    let changed = changed_in (with_bit need) (set_of whole line) line in
    elim (cases_eq (set_number whole l) (set_number whole line)) [
      | inl same ↦
          ap length (set_of-with_set_same whole line l changed (omega arith) same)
          ∙ (length_changed_in (with_bit need) (set_of whole line) line
          ∙ ap (λ n. length (slice_index_or whole n [])) (sym same))
      | inr other ↦ ap length (set_of-with_set_other whole line l changed other)
    ]

-- and for every line whose set has fewer lines than ways
pub room_after_mark_spare : (ways : ℕ) (cache : List (List Way)) (line l : ℕ) (need : Need) →
    length (set_of cache l) < ways → room_of ways (marked cache line need) l ≡ true
room_after_mark_spare ways cache line l need spare =
    room_by_spare ways (set_of (marked cache line need) l) l (omega (arith, length_marked_set cache line l need, spare))
