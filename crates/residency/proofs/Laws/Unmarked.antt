-- A cache without bits gets none but by a mark: what is touched, changes its letter, comes or
-- leaves has none after it either.
use Rattle.std.proofs.Common.{◌≡◌, ℕ, zero, suc, Bool, true, false, List, [], ◌∷◌, Option, None, Some, refl}
use Rattle.std.proofs.Common.{if◌then◌else◌, ◌==◌}
use Rattle.std.specs.List.{list_any}
use Rattle.std.specs.Prelude.{map, slice_index_or, slice_set}
use Rattle.std.proofs.lemmas.Bool.{or_from}
use Rattle.moesi.specs.declared.letter.Letter.{Letter}
use Rattle.residency.specs.Residency.{Way, changed_in, dropped, evicted_in, filled_in, is_marked, left_in, to_front}
use Rattle.residency.specs.Residency.{touched_in, way_in, with_letter}
use Rattle.residency.specs.Residency.{without_bits}
use Rattle.residency.specs.Cache.{cleared, empty_cache, filled_with, has_marks, lettered, set_number, set_of, touched}
use Rattle.residency.specs.Cache.{without_line}
use Rattle.el_base.proofs.Laws.Tests.{first_not, second_not}

abbrev pub IsBare : List Way → Type 0
IsBare set = list_any is_marked set ≡ false

bare_cons : (way : Way) (ways : List Way) → is_marked way ≡ false → IsBare ways → IsBare (way ∷ ways)
bare_cons way ways none others = or_from (is_marked way) (list_any is_marked ways) none others

-- the way of a line
abbrev IsBareWay : Option Way → Type 0
IsBareWay None = Unit {0}
IsBareWay (Some way) = is_marked way ≡ false

chosen : {A : Type 0} (P : A → Type 0) (test : Bool) (x y : A) → P x → P y → P (if test then x else y)
chosen P true x y px py = px
chosen P false x y px py = py

bare_way_in : (set : List Way) (line : ℕ) → IsBare set → IsBareWay (way_in set line)
bare_way_in [] line bare = tt
bare_way_in (way ∷ ways) line bare =
    chosen IsBareWay (way.line == line) (Some way) (way_in ways line) (first_not _ _ bare)
    (bare_way_in ways line (second_not (is_marked way) _ bare))

bare_dropped : (set : List Way) (line : ℕ) → IsBare set → IsBare (dropped set line)
bare_dropped [] line bare = refl
bare_dropped (way ∷ ways) line bare =
    let others = bare_dropped ways line (second_not (is_marked way) _ bare) in
    chosen IsBare (way.line == line) (dropped ways line) (way ∷ dropped ways line) others
    (bare_cons way (dropped ways line) (first_not _ _ bare) others)

bare_to_front : (set : List Way) (line : ℕ) (found : Option Way) → IsBareWay found → IsBare set →
    IsBare (to_front set line found)
bare_to_front set line None none bare = bare
bare_to_front set line (Some way) none bare = bare_cons way (dropped set line) none (bare_dropped set line bare)

bare_touched_in : (set : List Way) (line : ℕ) → IsBare set → IsBare (touched_in set line)
bare_touched_in set line bare = bare_to_front set line (way_in set line) (bare_way_in set line bare) bare

bare_lettered_in : (letter : Letter) (set : List Way) (line : ℕ) → IsBare set →
    IsBare (changed_in (with_letter letter) set line)
bare_lettered_in letter [] line bare = refl
bare_lettered_in letter (way ∷ ways) line bare =
    let rest = changed_in (with_letter letter) ways line in
    let others = bare_lettered_in letter ways line (second_not (is_marked way) _ bare) in
    chosen IsBare (way.line == line) (with_letter letter way ∷ rest) (way ∷ rest)
    (bare_cons (with_letter letter way) rest (first_not _ _ bare) others)
    (bare_cons way rest (first_not _ _ bare) others)

bare_left : (set : List Way) (victim : Option Way) → IsBare set → IsBare (left_in set victim)
bare_left set None bare = bare
bare_left set (Some way) bare = bare_dropped set way.line bare

bare_filled_in : (ways : ℕ) (set : List Way) (way : Way) → is_marked way ≡ false → IsBare set →
    IsBare (filled_in ways set way)
bare_filled_in ways set way none bare =
    bare_cons way (left_in set (evicted_in ways set)) none (bare_left set (evicted_in ways set) bare)

-- a set of a cache without bits, and such a cache with another set
pub bare_at : (cache : List (List Way)) (place : ℕ) → has_marks cache ≡ false → IsBare (slice_index_or cache place [])
bare_at [] place bare = refl
bare_at (set ∷ sets) zero bare = first_not _ _ bare
bare_at (set ∷ sets) (suc place) bare = bare_at sets place (second_not (list_any is_marked set) _ bare)

bare_set : (cache : List (List Way)) (place : ℕ) (set : List Way) → IsBare set → has_marks cache ≡ false →
    has_marks (slice_set cache place set) ≡ false
bare_set [] place set new bare = bare
bare_set (first ∷ sets) zero set new bare = or_from _ _ new (second_not (list_any is_marked first) _ bare)
bare_set (first ∷ sets) (suc place) set new bare =
    or_from _ _ (first_not (list_any is_marked first) _ bare)
    (bare_set sets place set new (second_not (list_any is_marked first) _ bare))

pub unmarked-touched : (cache : List (List Way)) (line : ℕ) → has_marks cache ≡ false →
    has_marks (touched cache line) ≡ false
unmarked-touched cache line bare =
    bare_set cache (set_number cache line) _
    (bare_touched_in (set_of cache line) line (bare_at cache (set_number cache line) bare)) bare

pub unmarked-lettered : (cache : List (List Way)) (line : ℕ) (letter : Letter) → has_marks cache ≡ false →
    has_marks (lettered cache line letter) ≡ false
unmarked-lettered cache line letter bare =
    bare_set cache (set_number cache line) _
    (bare_lettered_in letter (set_of cache line) line (bare_at cache (set_number cache line) bare)) bare

pub unmarked-without_line : (cache : List (List Way)) (line : ℕ) → has_marks cache ≡ false →
    has_marks (without_line cache line) ≡ false
unmarked-without_line cache line bare =
    bare_set cache (set_number cache line) _
    (bare_dropped (set_of cache line) line (bare_at cache (set_number cache line) bare)) bare

pub unmarked-filled_with : (ways : ℕ) (cache : List (List Way)) (line : ℕ) (letter : Letter) → has_marks cache ≡ false →
    has_marks (filled_with ways cache line letter) ≡ false
unmarked-filled_with ways cache line letter bare =
    let new : Way = record { line = line; letter = letter; read = false; write = false } in
    bare_set cache (set_number cache line) _
    (bare_filled_in ways (set_of cache line) new refl (bare_at cache (set_number cache line) bare)) bare

-- a cache whose bits were cleared has none, and an empty one neither
bare_cleared_in : (set : List Way) → IsBare (map without_bits set)
bare_cleared_in [] = refl
bare_cleared_in (way ∷ ways) = bare_cons (without_bits way) (map without_bits ways) refl (bare_cleared_in ways)

pub unmarked-cleared : (cache : List (List Way)) → has_marks (cleared cache) ≡ false
unmarked-cleared [] = refl
unmarked-cleared (set ∷ sets) = or_from _ _ (bare_cleared_in set) (unmarked-cleared sets)

pub unmarked-empty : (sets : ℕ) → has_marks (empty_cache sets) ≡ false
unmarked-empty zero = refl
unmarked-empty (suc sets) = unmarked-empty sets
