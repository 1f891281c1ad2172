-- How many lines have bits, and how many were written, after each word of a cache.
use Rattle.std.proofs.Common.{◌≡◌, ℕ, suc, ◌+◌, ◌*◌, ◌%◌, ◌≤◌, ◌<◌, Bool, true, false, not, ◌||◌, cond, eqb, List, []}
use Rattle.std.proofs.Common.{◌∷◌, length, map, get_or, Option, None}
use Rattle.std.proofs.Common.{Some, is_some, refl, ap, sym, ◌∙◌, arith}
use Rattle.std.specs.Option.{option_map_or}
use Rattle.std.specs.List.{sum_by, list_any}
use Rattle.residency.specs.Keyed.{count_of}
use Rattle.std.proofs.lemmas.Bool.{or_parts}
use Rattle.std.proofs.lemmas.Bool.Decides.{nat_tests}
use Rattle.std.proofs.lemmas.List.Sums.{get_or-le-sum_by, sum_by-cons, sum_by-le, sum_by-set}
use Rattle.std.proofs.lemmas.List.{get_or_default}
use Rattle.el_base.specs.declared.outcomes.Need.{Need}
use Rattle.el_base.specs.declared.outcomes.Need.TheVariants.{Read, Write}
use Rattle.moesi.specs.declared.letter.Letter.{Letter}
use Rattle.residency.specs.Residency.{Way, changed_in, dropped, filled_in, is_marked, touched_in, way_in, with_bit}
use Rattle.residency.specs.Residency.{with_letter, without_bits}
use Rattle.residency.specs.Cache.{bit_in, cleared, committed, committed_way, evicted_by, filled_with, has_bit}
use Rattle.residency.specs.Cache.{has_marks, is_resident, lettered, marked}
use Rattle.residency.specs.Cache.{set_number, set_of, touched, way_of, with_set, without_line, write_bit, write_bits_of}
use Rattle.residency.specs.WellFormed.{IsWellFormed}
use Rattle.residency.specs.Cache.{marks_of}
use Rattle.residency.proofs.Laws.ResidencyLemmas.{counted, evicted_in-victim, line_of, once_less, same_or}
use Rattle.residency.proofs.Laws.ResidencyLemmas.{sum_by-changed_in, sum_by-dropped, sum_by-filled_in}
use Rattle.residency.proofs.Laws.ResidencyLemmas.{sum_by-map, sum_by-touched_in, victim_in-unmarked}
use Rattle.residency.proofs.Laws.WellFormedLemmas.{fresh}

-- a sum over every way of a cache
abbrev pub total : (Way → ℕ) → List (List Way) → ℕ
total f cache = sum_by (λ set. sum_by f set) cache

-- one for a way with a bit, and one for a written way
abbrev pub one_if : Bool → ℕ
one_if b = cond b 1 0

abbrev pub mark_of : Way → ℕ
mark_of way = one_if (is_marked way)

abbrev pub write_of : Way → ℕ
write_of way = one_if way.write

total-with_set : (f : Way → ℕ) (cache : List (List Way)) (line : ℕ) (set : List Way) → 0 < length cache →
    total f (with_set cache line set) + sum_by f (set_of cache line) ≡ total f cache + sum_by f set
total-with_set f cache line set some = sum_by-set (λ s. sum_by f s) cache (set_number cache line) set [] (omega arith)

pub total-touched : (f : Way → ℕ) (ways : ℕ) (cache : List (List Way)) (line : ℕ) → IsWellFormed ways cache →
    total f (touched cache line) ≡ total f cache
total-touched f ways cache line kept =
    omega (
      arith,
      total-with_set f cache line (touched_in (set_of cache line) line) kept.some_set,
      sum_by-touched_in f (set_of cache line) line (kept.once line line),
    )

pub total-without_line : (f : Way → ℕ) (ways : ℕ) (cache : List (List Way)) (line : ℕ) → IsWellFormed ways cache →
    total f (without_line cache line) + option_map_or f (way_of cache line) 0 ≡ total f cache
total-without_line f ways cache line kept =
    omega (
      arith,
      total-with_set f cache line (dropped (set_of cache line) line) kept.some_set,
      sum_by-dropped f (set_of cache line) line (kept.once line line),
    )

total-changed : (f : Way → ℕ) (change : Way → Way) (ways : ℕ) (cache : List (List Way)) (line : ℕ) →
    IsWellFormed ways cache →
    total f (with_set cache line (changed_in change (set_of cache line) line)) + option_map_or f (way_of cache line) 0
    ≡ total f cache + option_map_or (λ way. f (change way)) (way_of cache line) 0
total-changed f change ways cache line kept =
    omega (
      arith,
      total-with_set f cache line (changed_in change (set_of cache line) line) kept.some_set,
      sum_by-changed_in f change (set_of cache line) line (kept.once line line),
    )

pub total-lettered : (f : Way → ℕ) (ways : ℕ) (cache : List (List Way)) (line : ℕ) (letter : Letter) →
    IsWellFormed ways cache → ((way : Way) → f (with_letter letter way) ≡ f way) →
    total f (lettered cache line letter) ≡ total f cache
total-lettered f ways cache line letter kept stays =
    omega (
      arith,
      total-changed f (with_letter letter) ways cache line kept,
      same_or f (with_letter letter) (way_of cache line) stays,
    )

pub total-marked : (f : Way → ℕ) (ways : ℕ) (cache : List (List Way)) (line : ℕ) (need : Need) →
    IsWellFormed ways cache → total f (marked cache line need) + option_map_or f (way_of cache line) 0
    ≡ total f cache + option_map_or (λ way. f (with_bit need way)) (way_of cache line) 0
total-marked f ways cache line need kept = total-changed f (with_bit need) ways cache line kept

pub total-filled_with : (f : Way → ℕ) (ways : ℕ) (cache : List (List Way)) (line : ℕ) (letter : Letter) →
    IsWellFormed ways cache → total f (filled_with ways cache line letter) + option_map_or f
    (evicted_by ways cache line) 0 ≡ total f cache + f (fresh line letter)
total-filled_with f ways cache line letter kept =
    omega (
      arith,
      total-with_set f cache line (filled_in ways (set_of cache line) (fresh line letter)) kept.some_set,
      sum_by-filled_in f ways (set_of cache line) (fresh line letter) (kept.once line),
    )

sum_by-none : (f : Way → ℕ) (set : List Way) → ((way : Way) → f way ≡ 0) → sum_by f set ≡ 0
sum_by-none f [] gone = refl
sum_by-none f (way ∷ set) gone = omega (arith, sum_by-cons f way set, gone way, sum_by-none f set gone)

-- a sum after a change of every way that leaves nothing to count
total-map : (f : Way → ℕ) (change : Way → Way) (cache : List (List Way)) → ((way : Way) → f (change way) ≡ 0) →
    total f (map (map change) cache) ≡ 0
total-map f change [] gone = refl
total-map f change (set ∷ cache) gone =
    omega (
      arith,
      sum_by-cons (λ s. sum_by f s) (map change set) (map (map change) cache),
      sum_by-map f change set,
      sum_by-none (λ way. f (change way)) set gone,
      total-map f change cache gone,
    )

has_marks-counted_in : (set : List Way) → list_any is_marked set ≡ not (eqb (sum_by mark_of set) 0)
has_marks-counted_in [] = refl
has_marks-counted_in (way ∷ set) = grind (arith, nat_tests, sum_by-cons mark_of way set, has_marks-counted_in set)

-- a line has a bit exactly where the count is not 0
pub has_marks-counted : (cache : List (List Way)) → has_marks cache ≡ not (eqb (marks_of cache) 0)
has_marks-counted [] = refl
has_marks-counted (set ∷ cache) =
    grind (
      arith,
      nat_tests,
      sum_by-cons (λ s. sum_by mark_of s) set cache,
      has_marks-counted_in set,
      has_marks-counted cache,
    )

-- how many lines have bits, and how many are written, after each word
same_marks : (before after : List (List Way)) → marks_of after ≡ marks_of before → has_marks after ≡ has_marks before
same_marks before after same = has_marks-counted after ∙ ap (λ n. not (eqb n 0)) same ∙ sym (has_marks-counted before)

pub has_marks-touched : (ways : ℕ) (cache : List (List Way)) (line : ℕ) → IsWellFormed ways cache →
    has_marks (touched cache line) ≡ has_marks cache
has_marks-touched ways cache line kept =
    same_marks cache (touched cache line) (total-touched mark_of ways cache line kept)

pub write_bits_of-touched : (ways : ℕ) (cache : List (List Way)) (line : ℕ) → IsWellFormed ways cache →
    write_bits_of (touched cache line) ≡ write_bits_of cache
write_bits_of-touched ways cache line kept = total-touched write_of ways cache line kept

pub has_marks-lettered : (ways : ℕ) (cache : List (List Way)) (line : ℕ) (letter : Letter) → IsWellFormed ways cache →
    has_marks (lettered cache line letter) ≡ has_marks cache
has_marks-lettered ways cache line letter kept =
    same_marks cache (lettered cache line letter) (total-lettered mark_of ways cache line letter kept (λ way. refl))

pub write_bits_of-lettered : (ways : ℕ) (cache : List (List Way)) (line : ℕ) (letter : Letter) →
    IsWellFormed ways cache → write_bits_of (lettered cache line letter) ≡ write_bits_of cache
write_bits_of-lettered ways cache line letter kept = total-lettered write_of ways cache line letter kept (λ way. refl)

-- what a bit adds to the counts
pub more_marks : (need : Need) (way : Option Way) → is_some way ≡ true →
    option_map_or (λ w. mark_of (with_bit need w)) way 0 ≡ 1
more_marks need None some = absurd cc
more_marks Read (Some way) some = refl
more_marks Write (Some way) some = grind (arith, nat_tests)

-- a way's part of a sum
part_of_set : (f : Way → ℕ) (set : List Way) (line : ℕ) → option_map_or f (way_in set line) 0 ≤ sum_by f set
part_of_set f [] line = omega arith
part_of_set f (way ∷ set) line = grind (arith, nat_tests, sum_by-cons f way set, part_of_set f set line)

pub part_of_total : (f : Way → ℕ) (cache : List (List Way)) (line : ℕ) →
    option_map_or f (way_of cache line) 0 ≤ total f cache
part_of_total f [] line = omega arith
part_of_total f (first ∷ cache) line =
    let whole = first ∷ cache in
    omega (
      arith,
      part_of_set f (set_of whole line) line,
      get_or-le-sum_by (λ s. sum_by f s) whole (set_number whole line) [] (omega arith),
    )

pub has_marks-marked : (ways : ℕ) (cache : List (List Way)) (line : ℕ) (need : Need) → IsWellFormed ways cache →
    is_resident cache line ≡ true → has_marks (marked cache line need) ≡ true
has_marks-marked ways cache line need kept some =
    let sums = total-marked mark_of ways cache line need kept in
    let more : 1 ≤ marks_of (marked cache line need) =
    omega (arith, sums, more_marks need (way_of cache line) some, part_of_total mark_of cache line) in
    has_marks-counted (marked cache line need) ∙ grind (arith, nat_tests)

pub write_bits_of-marked_read : (ways : ℕ) (cache : List (List Way)) (line : ℕ) → IsWellFormed ways cache →
    write_bits_of (marked cache line Read) ≡ write_bits_of cache
write_bits_of-marked_read ways cache line kept =
    omega (
      arith,
      total-marked write_of ways cache line Read kept,
      same_or write_of (with_bit Read) (way_of cache line) (λ way. refl),
    )

more_writes : (way : Option Way) (before after : ℕ) → is_some way ≡ true →
    after + option_map_or write_of way 0 ≡ before + option_map_or (λ w. write_of (with_bit Write w)) way 0 →
    after ≡ before + one_if (not (bit_in Write way))
more_writes None before after some sums = absurd cc
more_writes (Some way) before after some sums = grind (arith, nat_tests)

pub write_bits_of-marked_write : (ways : ℕ) (cache : List (List Way)) (line : ℕ) → IsWellFormed ways cache →
    is_resident cache line ≡ true →
    write_bits_of (marked cache line Write) ≡ write_bits_of cache + one_if (not (write_bit cache line))
write_bits_of-marked_write ways cache line kept some =
    more_writes (way_of cache line) (write_bits_of cache) (write_bits_of (marked cache line Write)) some
    (total-marked write_of ways cache line Write kept)

-- what leaves for a line has no bit
pub evicted_by-unmarked : (ways : ℕ) (cache : List (List Way)) (line : ℕ) (gone : Way) →
    evicted_by ways cache line ≡ Some gone → is_marked gone ≡ false
evicted_by-unmarked ways cache line gone is =
    victim_in-unmarked (set_of cache line) gone (evicted_in-victim ways (set_of cache line) gone is)

none_lost : (f : Way → ℕ) (evicted : Option Way) → ((gone : Way) → evicted ≡ Some gone → f gone ≡ 0) →
    option_map_or f evicted 0 ≡ 0
none_lost f None stays = refl
none_lost f (Some gone) stays = stays gone refl

pub marks_of-filled_with : (ways : ℕ) (cache : List (List Way)) (line : ℕ) (letter : Letter) → IsWellFormed ways cache →
    marks_of (filled_with ways cache line letter) ≡ marks_of cache
marks_of-filled_with ways cache line letter kept =
    omega (
      arith,
      total-filled_with mark_of ways cache line letter kept,
      none_lost mark_of (evicted_by ways cache line)
          (λ gone is. ap one_if (evicted_by-unmarked ways cache line gone is)),
    )

pub has_marks-filled_with : (ways : ℕ) (cache : List (List Way)) (line : ℕ) (letter : Letter) →
    IsWellFormed ways cache → has_marks (filled_with ways cache line letter) ≡ has_marks cache
has_marks-filled_with ways cache line letter kept =
    same_marks cache (filled_with ways cache line letter) (marks_of-filled_with ways cache line letter kept)

pub write_bits_of-filled_with : (ways : ℕ) (cache : List (List Way)) (line : ℕ) (letter : Letter) →
    IsWellFormed ways cache → write_bits_of (filled_with ways cache line letter) ≡ write_bits_of cache
write_bits_of-filled_with ways cache line letter kept =
    omega (
      arith,
      total-filled_with write_of ways cache line letter kept,
      none_lost write_of (evicted_by ways cache line)
          (λ gone is. ap one_if (or_parts gone.read gone.write (evicted_by-unmarked ways cache line gone is)).1),
    )

written : (way : Option Way) → option_map_or write_of way 0 ≡ one_if (bit_in Write way)
written None = refl
written (Some way) = refl

pub write_bits_of-without_line : (ways : ℕ) (cache : List (List Way)) (line : ℕ) → IsWellFormed ways cache →
    write_bits_of (without_line cache line) + one_if (write_bit cache line) ≡ write_bits_of cache
write_bits_of-without_line ways cache line kept =
    omega (arith, total-without_line write_of ways cache line kept, written (way_of cache line))

pub marks_of-cleared : (cache : List (List Way)) → marks_of (cleared cache) ≡ 0
marks_of-cleared cache = total-map mark_of without_bits cache (λ way. refl)

pub marks_of-committed : (cache : List (List Way)) → marks_of (committed cache) ≡ 0
marks_of-committed cache = total-map mark_of committed_way cache (λ way. refl)

pub write_bits_of-cleared : (cache : List (List Way)) → write_bits_of (cleared cache) ≡ 0
write_bits_of-cleared cache = total-map write_of without_bits cache (λ way. refl)

pub has_marks-committed : (cache : List (List Way)) → has_marks (committed cache) ≡ false
has_marks-committed cache = has_marks-counted (committed cache) ∙ ap (λ n. not (eqb n 0)) (marks_of-committed cache)

pub write_bits_of-committed : (cache : List (List Way)) → write_bits_of (committed cache) ≡ 0
write_bits_of-committed cache = total-map write_of committed_way cache (λ way. refl)

-- where any line has a bit, and where none has
bits_count : (way : Option Way) → (bit_in Read way || bit_in Write way) ≡ true → option_map_or mark_of way 0 ≡ 1
bits_count None bit = absurd cc
bits_count (Some way) bit = ap one_if bit

pub has_marks-bit : (cache : List (List Way)) (line : ℕ) → has_bit cache line ≡ true → has_marks cache ≡ true
has_marks-bit cache line bit =
    let some : 1 ≤ marks_of cache =
    omega (arith, part_of_total mark_of cache line, bits_count (way_of cache line) bit) in
    has_marks-counted cache ∙ grind (arith, nat_tests)

pub no_marks : (cache : List (List Way)) (line : ℕ) → has_marks cache ≡ false → has_bit cache line ≡ false
no_marks cache line none = grind (arith, nat_tests, has_marks-bit cache line)

found_behind : (first : Way) (set : List Way) (way : Way) → count_of line_of (first ∷ set) way.line ≤ 1 →
    way_in set way.line ≡ Some way → way_in (first ∷ set) way.line ≡ Some way
found_behind first set way once there =
    grind (
      arith,
      nat_tests,
      counted set way.line way there,
      sum_by-cons (λ w. cond (eqb (line_of w) way.line) 1 0) first set,
    )

marked_way : (set : List Way) → ((l : ℕ) → count_of line_of set l ≤ 1) → list_any is_marked set ≡ true →
    (way : Way) × (way_in set way.line ≡ Some way) × (is_marked way ≡ true)
marked_way [] once some = absurd cc
marked_way (way ∷ set) once some =
    elim (is_marked way) as (λ b. is_marked way ≡ b → (b || list_any is_marked set) ≡ true →
    (w : Way) × (way_in (way ∷ set) w.line ≡ Some w) × (is_marked w ≡ true)) [
      | true ↦ λ is any. (way, grind (arith, nat_tests), is)
      | false ↦ λ is any.
          let rest = marked_way set (once_less way set once) any in
          let here = found_behind way set rest.0 (once rest.0.line) rest.1 in
          (rest.0, here, rest.2)
    ]
    refl some

marked_set : (cache : List (List Way)) → has_marks cache ≡ true →
    (k : ℕ) × (k < length cache) × (list_any is_marked (get_or cache k []) ≡ true)
marked_set [] some = absurd cc
marked_set (set ∷ cache) some =
    elim (list_any is_marked set) as (λ b. list_any is_marked set ≡ b → (b || has_marks cache) ≡ true →
    (k : ℕ) × (k < length (set ∷ cache)) × (list_any is_marked (get_or (set ∷ cache) k []) ≡ true)) [
      | true ↦ λ is any. (0, omega arith, is)
      | false ↦ λ is any. let rest = marked_set cache any in (suc rest.0, omega (arith, rest.1), rest.2)
    ]
    refl some

-- there is a line with a bit, where any way has one
pub marked_line : (ways : ℕ) (cache : List (List Way)) → IsWellFormed ways cache → has_marks cache ≡ true →
    (line : ℕ) × (has_bit cache line ≡ true)
marked_line ways cache kept some =
    let there = marked_set cache some in
    let own : set_number cache there.0 ≡ there.0 = grind (arith, there.1) in
    let set : set_of cache there.0 ≡ get_or cache there.0 [] = ap (λ n. get_or cache n []) own in
    let found = marked_way (set_of cache there.0) (kept.once there.0) (ap (list_any is_marked) set ∙ there.2) in
    let way = found.0 in
    let home : set_of cache way.line ≡ set_of cache there.0 =
    ap (λ n. get_or cache n []) (kept.home there.0 way.line way found.1) in
    let here : way_of cache way.line ≡ Some way = ap (λ s. way_in s way.line) home ∙ found.1 in
    (way.line, ap (λ w. bit_in Read w || bit_in Write w) here ∙ found.2)

-- no more lines than a cache has places
pub total-le : (f : Way → ℕ) (ways : ℕ) (cache : List (List Way)) → IsWellFormed ways cache →
    ((way : Way) → f way ≤ 1) → total f cache ≤ length cache * ways
total-le f ways cache kept small =
    sum_by-le (λ set. sum_by f set) ways cache (λ k d within.
    let own : k % length cache ≡ k = grind (arith, within) in
    let set : get_or cache k d ≡ set_of cache k =
    get_or_default cache k d [] within ∙ ap (λ n. get_or cache n []) (sym own) in
    let part = sum_by-le f 1 (get_or cache k d) (λ j e inside. small (get_or (get_or cache k d) j e)) in
    omega (arith, part, kept.within k, ap length set))
