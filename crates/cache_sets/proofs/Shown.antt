-- What the lines of a cache show: the residency, each line's way and slot, and the copies
-- that a pool's bytes make of them.
use Rattle.std.proofs.Common.{◌≡◌, ◌≢◌, ℕ, zero, suc, ◌+◌, ◌%◌, ◌≤◌, ◌<◌, cond, eqb, List, [], ◌∷◌, length, map, get_or}
use Rattle.std.proofs.Common.{Option, None, Some}
use Rattle.std.proofs.Common.{option_map, is_some, refl, ap, sym, inl, inr, ◌∙◌, arith}
use Rattle.std.specs.Option.{option_map_or}
use Rattle.std.specs.List.{position, sum_by}
use Rattle.std.specs.Prelude.{slice_set}
use Rattle.std.proofs.lemmas.Bool.{cases_eq}
use Rattle.std.proofs.lemmas.Bool.Decides.{nat_tests}
use Rattle.std.proofs.lemmas.List.{get_or-map, get_or-set_other, get_or-set_same, length-map, length-set, map-set}
use Rattle.std.proofs.lemmas.List.Folds.{fold-map}
use Rattle.line_pool.specs.declared.slot.Slot.{Slot}
use Rattle.line_pool.specs.Pooled.{Pooled, no_slot}
use Rattle.line_pool.specs.Pooled as pools
use Rattle.cache_sets.specs.declared.line.Line as code
use Rattle.residency.specs.Cache.{set_of, way_of, with_set}
use Rattle.cache_sets.specs.Cached.{Copy, bytes_in, bytes_of, copy_in}
use Rattle.residency.specs.Keyed.{count_of, found}
use Rattle.cache_sets.specs.Kept.{line_at, number_of, residency_of, set_at, shown_cache, shown_line, slot_in_use}
use Rattle.cache_sets.specs.Kept.{with_lines}
use Rattle.residency.specs.Residency.{Way, way_in}
use Rattle.cache_sets.specs.Slotted.{lent, slot_in, slot_of}
use Rattle.residency.specs.WellFormed.{IsWellFormed}
use Rattle.residency.proofs.Laws.KeyedLemmas.{found-map, position-some}
use Rattle.residency.proofs.Laws.ResidencyLemmas.{line_of, way_in-found}

-- the set of a line, and the way of a line in a set and in the cache
pub set_of_shown : (cache : List (List code.Line)) (line : ℕ) →
    set_of (residency_of cache) line ≡ map shown_line (set_at cache line)
set_of_shown [] line = refl
set_of_shown (first ∷ cache) line =
    let whole = first ∷ cache in
    rw (length-map whole (map shown_line)) (get_or-map (map shown_line) whole (line % length whole) [] [] (omega arith))

pub way_in_shown : (lines : List code.Line) (line : ℕ) →
    way_in (map shown_line lines) line ≡ option_map shown_line (found number_of lines line)
way_in_shown lines line =
    way_in-found (map shown_line lines) line ∙ found-map number_of line_of shown_line (λ l. refl) lines line

pub way_of_shown : (cache : List (List code.Line)) (line : ℕ) →
    way_of (residency_of cache) line ≡ option_map shown_line (line_at cache line)
way_of_shown cache line = ap (λ set. way_in set line) (set_of_shown cache line) ∙ way_in_shown (set_at cache line) line

pub sum-map : {X Y : Type 0} (f : Y → ℕ) (show : X → Y) (xs : List X) →
    sum_by f (map show xs) ≡ sum_by (λ x. f (show x)) xs
sum-map f show xs = fold-map (λ total y. total + f y) show 0 xs

-- no set has a line twice
pub once_at : (ways : ℕ) (cache : List (List code.Line)) (line l : ℕ) → IsWellFormed ways (residency_of cache)
    → count_of number_of (set_at cache line) l ≤ 1
once_at ways cache line l kept =
    omega (
      arith,
      kept.once line l,
      ap (λ set. count_of line_of set l) (set_of_shown cache line),
      sum-map (λ way. cond (eqb (line_of way) l) 1 0) shown_line (set_at cache line),
    )

pub some_set : (ways : ℕ) (cache : List (List code.Line)) → IsWellFormed ways (residency_of cache) → 0 < length cache
some_set ways cache kept = omega (arith, kept.some_set, length-map cache (map shown_line))

-- the slot of a line
slot_in_shown : (lines : List code.Line) (line : ℕ)
    → slot_in (map shown_line lines) (map (λ l. l.slot) lines) line ≡ option_map_or (λ l. l.slot)
    (found number_of lines line) no_slot
slot_in_shown [] line = refl
slot_in_shown (first ∷ lines) line = grind (arith, nat_tests, slot_in_shown lines line)

pub slot_shown : (ways owner : ℕ) (cache : List (List code.Line)) (line : ℕ)
    → slot_of (shown_cache ways owner cache) line ≡ slot_in_use cache line
slot_shown ways owner [] line = refl
slot_shown ways owner (first ∷ cache) line =
    let whole = first ∷ cache in
    rw (length-map whole (map shown_line))
    (rw (
      get_or-map (map shown_line) whole (line % length whole) [] [] (omega arith),
      get_or-map (map (λ (l : code.Line). l.slot)) whole (line % length whole) [] [] (omega arith),
    )
    (slot_in_shown (set_at whole line) line))

-- the bytes of a line
bytes_in_shown : (bytes : Slot → List ℕ) (lines : List code.Line) (line : ℕ)
    → bytes_in (map shown_line lines) (map bytes (map (λ l. l.slot) lines)) line
    ≡ option_map_or (λ l. bytes l.slot) (found number_of lines line) []
bytes_in_shown bytes [] line = refl
bytes_in_shown bytes (first ∷ lines) line = grind (arith, nat_tests, bytes_in_shown bytes lines line)

pub rows_at : (bytes : Slot → List ℕ) (cache : List (List code.Line)) (k : ℕ) → k < length cache
    → get_or (map (λ set. map bytes set) (map (λ set. map (λ (l : code.Line). l.slot) set) cache)) k []
    ≡ map bytes (map (λ l. l.slot) (get_or cache k []))
rows_at bytes [] k within = absurd (omega arith)
rows_at bytes (set ∷ cache) zero within = refl
rows_at bytes (set ∷ cache) (suc k) within = rows_at bytes cache k (omega arith)

pub bytes_shown : (pool : Pooled) (ways owner : ℕ) (cache : List (List code.Line)) (line : ℕ)
    → bytes_of (lent pool (shown_cache ways owner cache)) line ≡ option_map_or (λ l. pools.bytes_of pool l.slot)
    (line_at cache line) []
bytes_shown pool ways owner [] line = refl
bytes_shown pool ways owner (first ∷ cache) line =
    let whole = first ∷ cache in
    rw (length-map whole (map shown_line))
    (rw (
      get_or-map (map shown_line) whole (line % length whole) [] [] (omega arith),
      rows_at (pools.bytes_of pool) whole (line % length whole) (omega arith),
    )
    (bytes_in_shown (pools.bytes_of pool) (set_at whole line) line))

-- the copy of a line
abbrev pub copy_of : Pooled → code.Line → Copy
copy_of pool line = record { letter = line.way.letter; bytes = pools.bytes_of pool line.slot }

pub copy_shown : (pool : Pooled) (ways owner : ℕ) (cache : List (List code.Line)) (line : ℕ)
    → copy_in (lent pool (shown_cache ways owner cache)) line ≡ option_map (copy_of pool) (line_at cache line)
copy_shown pool ways owner cache line = shown (line_at cache line) refl
  where
    of : Way → Copy
    of way = record { letter = way.letter; bytes = bytes_of (lent pool (shown_cache ways owner cache)) line }

    shown : (found : Option code.Line) → line_at cache line ≡ found
        → copy_in (lent pool (shown_cache ways owner cache)) line ≡ option_map (copy_of pool) found
    shown None is = ap (option_map of) (way_of_shown cache line ∙ ap (option_map shown_line) is)
    shown (Some l) is =
        ap (option_map of) (way_of_shown cache line ∙ ap (option_map shown_line) is)
        ∙ ap (λ bytes. Some (record { letter = l.way.letter; bytes = bytes }))
        (bytes_shown pool ways owner cache line ∙ ap (λ w. option_map_or (λ l. pools.bytes_of pool l.slot) w []) is)

-- a cache of which one set is another
module _ (cache : List (List code.Line)) (line : ℕ) (set : List code.Line) where
  pub length-with : length (with_lines cache line set) ≡ length cache
  length-with = length-set cache (line % length cache) set

  pub residency-with : residency_of (with_lines cache line set) ≡ with_set (residency_of cache) line
      (map shown_line set)
  residency-with =
      map-set (map shown_line) cache (line % length cache) set
      ∙ ap (λ n. slice_set (residency_of cache) (line % n) (map shown_line set))
      (sym (length-map cache (map shown_line)))

  pub set_at-with_same : (l : ℕ) → 0 < length cache → l % length cache ≡ line % length cache →
      set_at (with_lines cache line set) l ≡ set
  set_at-with_same l some same =
      rw (length-with, same) (get_or-set_same cache (line % length cache) set [] (omega arith))

  set_at-with_other : (l : ℕ) → l % length cache ≢ line % length cache →
      set_at (with_lines cache line set) l ≡ set_at cache l
  set_at-with_other l other =
      rw length-with (get_or-set_other cache (line % length cache) (l % length cache) set [] other)

  -- a line of the set, and a line that has in the new set what it had
  pub line_at-with_same : (l : ℕ) → 0 < length cache → l % length cache ≡ line % length cache
      → line_at (with_lines cache line set) l ≡ found number_of set l
  line_at-with_same l some same = ap (λ s. found number_of s l) (set_at-with_same l some same)

  pub line_at-with_other : (l : ℕ) → 0 < length cache → found number_of set l ≡ found number_of (set_at cache line) l
      → line_at (with_lines cache line set) l ≡ line_at cache l
  line_at-with_other l some kept = elim (cases_eq (l % length cache) (line % length cache)) [
    | inl same ↦ line_at-with_same l some same ∙ kept ∙ ap (λ n. found number_of (get_or cache n []) l) (sym same)
    | inr other ↦ ap (λ s. found number_of s l) (set_at-with_other l other)
  ]

-- a line is in a set exactly where it has a place there
pub some_place : (lines : List code.Line) (line : ℕ) (place : Option ℕ) →
    place ≡ position (λ l. eqb (number_of l) line) lines
    → is_some place ≡ is_some (way_in (map shown_line lines) line)
some_place lines line place is =
    ap is_some is ∙ position-some number_of lines line ∙ some_shown (found number_of lines line)
    ∙ ap is_some (sym (way_in_shown lines line))
  where
    some_shown : (l : Option code.Line) → is_some l ≡ is_some (option_map shown_line l)
    some_shown None = refl
    some_shown (Some l) = refl
