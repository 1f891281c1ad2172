-- What holds of every cache is kept by each word of a cache.
use Rattle.std.proofs.Common.{◌≡◌, ◌≢◌, ℕ, zero, suc, ◌+◌, ◌%◌, ◌≤◌, ◌<◌, Bool, true, false, cond, eqb, List, []}
use Rattle.std.proofs.Common.{length, map, Option, None, Some, is_some}
use Rattle.std.proofs.Common.{refl, ap, sym, subst, inl, inr, ◌⊎◌, ◌∙◌, arith}
use Rattle.std.specs.Option.{option_map_or}
use Rattle.std.specs.List.{sum_by}
use Rattle.std.proofs.lemmas.Bool.{cases_eq, cases_lt}
use Rattle.std.proofs.lemmas.Option.{none-some, same_Some}
use Rattle.std.proofs.lemmas.Bool.Decides.{nat_tests}
use Rattle.std.proofs.lemmas.List.{length-map, get_or-map, get_or-replicate, length-replicate}
use Rattle.moesi.specs.declared.letter.Letter.{Letter}
use Rattle.moesi.specs.declared.letter.Letter.TheVariants.{I, M}
use Rattle.el_base.specs.declared.outcomes.Need.{Need}
use Rattle.residency.specs.Residency.{Way, changed_in, dropped, evicted_in, filled_in, left_in, room_in, touched_in}
use Rattle.residency.specs.Residency.{way_in, with_bit, with_letter}
use Rattle.residency.specs.Residency.{without_bits}
use Rattle.residency.specs.Cache.{cleared, committed, committed_way, empty_cache, filled_with, is_resident, lettered}
use Rattle.residency.specs.Cache.{marked, room_of, set_number, set_of}
use Rattle.residency.specs.Cache.{touched, with_set, without_line}
use Rattle.residency.specs.WellFormed.{IsWellFormed}
use Rattle.residency.proofs.Laws.ResidencyLemmas.{evicted_in-some, uncounted, line_of, same_or, sum_by-changed_in}
use Rattle.residency.proofs.Laws.ResidencyLemmas.{sum_by-dropped, sum_by-map, sum_by-filled_in}
use Rattle.residency.proofs.Laws.ResidencyLemmas.{sum_by-touched_in, way_in-changed_in_other, way_in-changed_in_same}
use Rattle.residency.proofs.Laws.ResidencyLemmas.{way_in-dropped_other, way_in-dropped_same}
use Rattle.residency.proofs.Laws.ResidencyLemmas.{way_in-filled_in_same, way_in-map, way_in-touched_in}
use Rattle.el_base.specs.declared.outcomes.Need.TheVariants.{Read, Write}
use Rattle.el_base.proofs.Laws.Options.{none_from}
use Rattle.residency.proofs.Laws.CacheLemmas.{line-with_bit, length-with_set, set_of-with_set_other}
use Rattle.residency.proofs.Laws.CacheLemmas.{set_of-with_set_same}
use Rattle.residency.specs.Keyed.{count_of}
use Rattle.residency.proofs.Laws.KeyedLemmas.{length-sum_by, mapped}

-- a set that may take the place of a line's
record Fits (ways : ℕ) (cache : List (List Way)) (line : ℕ) (set : List Way) : Type 0 where
  within : length set ≤ ways
  once : (l : ℕ) → count_of line_of set l ≤ 1
  home : (l : ℕ) (way : Way) → way_in set l ≡ Some way → set_number cache l ≡ set_number cache line
  valid : (l : ℕ) (way : Way) → way_in set l ≡ Some way → way.letter ≢ I

-- a fact of each set holds after one set took the place of another
each_set : (P : List Way → ℕ → Type 0) (cache : List (List Way)) (line : ℕ) (set : List Way) → 0 < length cache →
    ((n : ℕ) → n ≡ set_number cache line → P set n) → ((l : ℕ) → P (set_of cache l) (set_number cache l)) → (l : ℕ) →
    P (set_of (with_set cache line set) l) (set_number cache l)
each_set P cache line set some here others l =
    elim (cases_eq (set_number cache l) (set_number cache line)) [
      | inl same ↦ subst (λ (s : List Way). P s (set_number cache l))
          (sym (set_of-with_set_same cache line l set some same)) (here (set_number cache l) same)
      | inr other ↦ subst (λ (s : List Way). P s (set_number cache l))
          (sym (set_of-with_set_other cache line l set other)) (others l)
    ]

-- the set of a line has the same number in both
same_number : (cache : List (List Way)) (line l : ℕ) (set : List Way) →
    set_number (with_set cache line set) l ≡ set_number cache l
same_number cache line l set = ap (λ n. l % n) (length-with_set cache line set)

well_formed-with_set : (ways : ℕ) (cache : List (List Way)) (line : ℕ) (set : List Way) → IsWellFormed ways cache →
    Fits ways cache line set → IsWellFormed ways (with_set cache line set)
well_formed-with_set ways cache line set kept fits = record {
  some_set = omega (arith, kept.some_set, length-with_set cache line set);
  within = each_set (λ s n. length s ≤ ways) cache line set kept.some_set (λ n is. fits.within) kept.within;
  once =
      each_set (λ s n. (l : ℕ) → count_of line_of s l ≤ 1) cache line set kept.some_set (λ n is. fits.once) kept.once;
  home = λ line' l way is.
      same_number cache line l set
      ∙ each_set (λ s n. (l : ℕ) (way : Way) → way_in s l ≡ Some way → set_number cache l ≡ n) cache line
      set kept.some_set
      (λ n is l way found. fits.home l way found ∙ sym is) kept.home line' l way is
      ∙ sym (same_number cache line line' set);
  valid = each_set (λ s n. (l : ℕ) (way : Way) → way_in s l ≡ Some way →
      way.letter ≢ I) cache line set kept.some_set (λ n is. fits.valid) kept.valid;
}

-- a set in which no way is new, and the sums have not grown, fits
fits-less : (ways : ℕ) (cache : List (List Way)) (line : ℕ) (set : List Way) → IsWellFormed ways cache →
    ((f : Way → ℕ) → sum_by f set ≤ sum_by f (set_of cache line)) →
    ((l : ℕ) (way : Way) → way_in set l ≡ Some way → way_in (set_of cache line) l ≡ Some way) → Fits ways cache line set
fits-less ways cache line set kept less old = record {
  within = omega (arith, kept.within line, less (λ way. 1), length-sum_by set, length-sum_by (set_of cache line));
  once = λ l. omega (arith, kept.once line l, less (λ way. cond (eqb (line_of way) l) 1 0));
  home = λ l way is. kept.home line l way (old l way is);
  valid = λ l way is. kept.valid line l way (old l way is);
}

pub well_formed-touched : (ways : ℕ) (cache : List (List Way)) (line : ℕ) → IsWellFormed ways cache →
    IsWellFormed ways (touched cache line)
well_formed-touched ways cache line kept =
    well_formed-with_set ways cache line (touched_in (set_of cache line) line) kept
    (fits-less ways cache line (touched_in (set_of cache line) line) kept
    (λ f. omega (arith, sum_by-touched_in f (set_of cache line) line (kept.once line line)))
    (λ l way is. sym (way_in-touched_in (set_of cache line) line l) ∙ is))

-- a way that is found in a set without a line was found before
found_before : (set : List Way) (line l : ℕ) (way : Way) → way_in (dropped set line) l ≡ Some way →
    way_in set l ≡ Some way
found_before set line l way is =
    elim (cases_eq l line) [
      | inl same ↦ absurd (grind (arith, way_in-dropped_same set line, same, is))
      | inr other ↦ sym (way_in-dropped_other set line l other) ∙ is
    ]

pub well_formed-without_line : (ways : ℕ) (cache : List (List Way)) (line : ℕ) → IsWellFormed ways cache →
    IsWellFormed ways (without_line cache line)
well_formed-without_line ways cache line kept =
    well_formed-with_set ways cache line (dropped (set_of cache line) line) kept
    (fits-less ways cache line (dropped (set_of cache line) line) kept
    (λ f. omega (arith, sum_by-dropped f (set_of cache line) line (kept.once line line)))
    (λ l way is. found_before (set_of cache line) line l way is))

-- a change that keeps the line of a way, and gives it no letter I
record Changes (change : Way → Way) : Type 0 where
  line : (way : Way) → (change way).line ≡ way.line
  valid : (way : Way) → way.letter ≢ I → (change way).letter ≢ I

unchanged_or : (change : Way → Way) (set : List Way) (line l : ℕ) (way : Way) → ((w : Way) → (change w).line ≡ w.line) →
    way_in (changed_in change set line) l ≡ Some way →
    (old : Way) × (way_in set l ≡ Some old) × ((old ≡ way) ⊎ (change old ≡ way))
unchanged_or change set line l way kept is =
    elim (cases_eq l line) [
      | inl same ↦
          let there = mapped change (way_in set line) way
          (sym (way_in-changed_in_same change set line kept)
          ∙ subst (λ n. way_in (changed_in change set line) n ≡ Some way) same is) in
          (there.0, subst (λ n. way_in set n ≡ Some there.0) (sym same) there.1, inr there.2)
      | inr other ↦ (way, sym (way_in-changed_in_other change set line l kept other) ∙ is, inl refl)
    ]

fits-changed : (change : Way → Way) (ways : ℕ) (cache : List (List Way)) (line : ℕ) → Changes change →
    IsWellFormed ways cache → Fits ways cache line (changed_in change (set_of cache line) line)
fits-changed change ways cache line keeps kept =
    let old = set_of cache line in
    let new = changed_in change old line in
    let sums : (f : Way → ℕ) → ((w : Way) → f (change w) ≡ f w) → sum_by f new ≡ sum_by f old =
    λ f stays. let whole = sum_by-changed_in f change old line (kept.once line line) in
    omega (arith, whole, same_or f change (way_in old line) stays) in
    record {
      within = omega (arith, kept.within line, sums (λ way. 1) (λ w. refl), length-sum_by new, length-sum_by old);
      once =
          λ l.
          omega (
            arith,
            kept.once line l,
            sums (λ way. cond (eqb (line_of way) l) 1 0) (λ w. ap (λ n. cond (eqb n l) 1 0) (keeps.line w)),
          );
      home = λ l way is. let before = unchanged_or change old line l way keeps.line is in
          kept.home line l before.0 before.1;
      valid = λ l way is.
          let before = unchanged_or change old line l way keeps.line is in
          let was = kept.valid line l before.0 before.1 in
          elim before.2 [
            | inl same ↦ subst (λ (w : Way). w.letter ≢ I) same was
            | inr changed ↦ subst (λ (w : Way). w.letter ≢ I) changed (keeps.valid before.0 was)
          ];
    }

pub well_formed-lettered : (ways : ℕ) (cache : List (List Way)) (line : ℕ) (letter : Letter) → letter ≢ I →
    IsWellFormed ways cache → IsWellFormed ways (lettered cache line letter)
well_formed-lettered ways cache line letter some kept =
    well_formed-with_set ways cache line (changed_in (with_letter letter) (set_of cache line) line) kept
    (fits-changed (with_letter letter) ways cache line (record { line = λ way. refl; valid = λ way was. some }) kept)

letter-with_bit : (need : Need) (way : Way) → (with_bit need way).letter ≡ way.letter
letter-with_bit Read way = refl
letter-with_bit Write way = refl

pub well_formed-marked : (ways : ℕ) (cache : List (List Way)) (line : ℕ) (need : Need) → IsWellFormed ways cache →
    IsWellFormed ways (marked cache line need)
well_formed-marked ways cache line need kept =
    well_formed-with_set ways cache line (changed_in (with_bit need) (set_of cache line) line) kept
    (fits-changed (with_bit need) ways cache line
    (record { line = line-with_bit need; valid = λ way was is. was (sym (letter-with_bit need way) ∙ is) }) kept)

-- the way of a line that came
abbrev pub fresh : ℕ → Letter → Way
fresh line letter = record { line = line; letter = letter; read = false; write = false }

left_before : (set : List Way) (evicted : Option Way) (l : ℕ) (way : Way) → way_in (left_in set evicted) l ≡ Some way →
    way_in set l ≡ Some way
left_before set None l way is = is
left_before set (Some gone) l way is = found_before set gone.line l way is

filled_before : (ways : ℕ) (set : List Way) (new : Way) (l : ℕ) (way : Way) → l ≢ new.line →
    way_in (filled_in ways set new) l ≡ Some way → way_in set l ≡ Some way
filled_before ways set new l way other is =
    left_before set (evicted_in ways set) l way (grind (arith, nat_tests))

one_of : (way : Option Way) → is_some way ≡ true → option_map_or (λ w. suc zero) way 0 ≡ 1
one_of None some = absurd cc
one_of (Some way) some = refl

-- with a line more, and the one that leaves for it, a set has no more lines than ways
fewer : (ways : ℕ) (set : List Way) (line : ℕ) → room_in ways set line ≡ true → way_in set line ≡ None →
    length set ≤ ways → length set + 1 ≤ ways + option_map_or (λ way. 1) (evicted_in ways set) 0
fewer ways set line room absent within =
    let leaves = evicted_in-some ways set line room absent in
    elim (cases_lt (length set) ways) [
      | inl low ↦ omega (arith, low)
      | inr full ↦
          let one = one_of (evicted_in ways set) (grind (arith, nat_tests, leaves, full)) in
          omega (arith, one, within)
    ]

fits-filled : (ways : ℕ) (cache : List (List Way)) (line : ℕ) (letter : Letter) → room_of ways cache line ≡ true →
    is_resident cache line ≡ false → letter ≢ I → IsWellFormed ways cache →
    Fits ways cache line (filled_in ways (set_of cache line) (fresh line letter))
fits-filled ways cache line letter room absent some kept =
    let old = set_of cache line in
    let new = filled_in ways old (fresh line letter) in
    let none : way_in old line ≡ None = none_from (way_in old line) absent in
    let sums : (f : Way → ℕ) → sum_by f new + option_map_or f (evicted_in ways old) 0
    ≡ sum_by f old + f (fresh line letter) =
    λ f. sum_by-filled_in f ways old (fresh line letter) (kept.once line) in
    let own : (l : ℕ) → l ≡ line → count_of line_of old l ≡ 0 =
    λ l same. subst (λ n. count_of line_of old n ≡ 0) (sym same) (uncounted old line none) in
    record {
      within =
          omega (
            arith,
            sums (λ way. 1),
            fewer ways old line room none (kept.within line),
            length-sum_by new,
            length-sum_by old,
          );
      once = λ l. grind (arith, nat_tests, sums (λ way. cond (eqb (line_of way) l) 1 0), kept.once line l, own l);
      home = λ l way is.
          elim (cases_eq l line) [
            | inl same ↦ ap (set_number cache) same
            | inr other ↦ kept.home line l way (filled_before ways old (fresh line letter) l way other is)
          ];
      valid = λ l way is.
          elim (cases_eq l line) [
            | inl same ↦
                let here : Some (fresh line letter) ≡ Some way =
                sym (way_in-filled_in_same ways old (fresh line letter))
                ∙ subst (λ n. way_in new n ≡ Some way) same is in
                subst (λ (w : Way). w.letter ≢ I) (same_Some (fresh line letter) way here) some
            | inr other ↦ kept.valid line l way (filled_before ways old (fresh line letter) l way other is)
          ];
    }

pub well_formed-filled_with : (ways : ℕ) (cache : List (List Way)) (line : ℕ) (letter : Letter) →
    room_of ways cache line ≡ true → is_resident cache line ≡ false → letter ≢ I → IsWellFormed ways cache →
    IsWellFormed ways (filled_with ways cache line letter)
well_formed-filled_with ways cache line letter room absent some kept =
    well_formed-with_set ways cache line (filled_in ways (set_of cache line) (fresh line letter)) kept
    (fits-filled ways cache line letter room absent some kept)

-- a change of every way
well_formed-map : (change : Way → Way) (ways : ℕ) (cache : List (List Way)) → Changes change → IsWellFormed ways cache →
    IsWellFormed ways (map (map change) cache)
well_formed-map change ways cache keeps kept =
    let number : (l : ℕ) → set_number (map (map change) cache) l ≡ set_number cache l =
    λ l. ap (λ n. l % n) (length-map cache (map change)) in
    let sets : (l : ℕ) → set_of (map (map change) cache) l ≡ map change (set_of cache l) =
    λ l. rw (length-map cache (map change))
    (get_or-map (map change) cache (set_number cache l) [] [] (omega (arith, kept.some_set))) in
    record {
      some_set = omega (arith, kept.some_set, length-map cache (map change));
      within = λ line. omega (arith, kept.within line, ap length (sets line), length-map (set_of cache line) change);
      once = λ line l.
          let same : count_of line_of (map change (set_of cache line)) l ≡ count_of line_of (set_of cache line) l =
          sum_by-map (λ way. cond (eqb (line_of way) l) 1 0) change (set_of cache line)
          ∙ λ i. sum_by (λ way. cond (eqb (keeps.line way i) l) 1 0) (set_of cache line) in
          omega (arith, kept.once line l, same, ap (λ set. count_of line_of set l) (sets line));
      home = λ line l way is.
          let was = mapped change (way_in (set_of cache line) l) way
          (sym (way_in-map change (set_of cache line) l keeps.line)
          ∙ ap (λ set. way_in set l) (sym (sets line)) ∙ is) in
          number l ∙ kept.home line l was.0 was.1 ∙ sym (number line);
      valid = λ line l way is.
          let was = mapped change (way_in (set_of cache line) l) way
          (sym (way_in-map change (set_of cache line) l keeps.line)
          ∙ ap (λ set. way_in set l) (sym (sets line)) ∙ is) in
          subst (λ (w : Way). w.letter ≢ I) was.2 (keeps.valid was.0 (kept.valid line l was.0 was.1));
    }

pub well_formed-cleared : (ways : ℕ) (cache : List (List Way)) → IsWellFormed ways cache →
    IsWellFormed ways (cleared cache)
well_formed-cleared ways cache kept =
    well_formed-map without_bits ways cache (record { line = λ way. refl; valid = λ way was. was }) kept

modified : (write : Bool) (letter : Letter) → letter ≢ I → cond write M letter ≢ I
modified true letter was is = absurd cc
modified false letter was is = was is

pub well_formed-committed : (ways : ℕ) (cache : List (List Way)) → IsWellFormed ways cache →
    IsWellFormed ways (committed cache)
well_formed-committed ways cache kept =
    well_formed-map committed_way ways cache
    (record { line = λ way. refl; valid = λ way was. modified way.write way.letter was }) kept

-- each set of a cache without lines is empty
pub set_of-empty_cache : (sets line : ℕ) → set_of (empty_cache sets) line ≡ []
set_of-empty_cache zero line = refl
set_of-empty_cache (suc n) line =
    rw (length-replicate {A = List Way} (suc n) []) (get_or-replicate (suc n) (line % suc n) [] [] (omega arith))

none_in_empty : (sets line l : ℕ) (way : Way) → way_in (set_of (empty_cache sets) line) l ≡ Some way → ⊥
none_in_empty sets line l way is = none-some way (sym (ap (λ set. way_in set l) (set_of-empty_cache sets line)) ∙ is)

pub well_formed-empty_cache : (ways sets : ℕ) → 0 < sets → IsWellFormed ways (empty_cache sets)
well_formed-empty_cache ways sets some = record {
  some_set = omega (arith, some, length-replicate {A = List Way} sets []);
  within = λ line. rw set_of-empty_cache (omega arith);
  once = λ line l. rw set_of-empty_cache (omega arith);
  home = λ line l way is. absurd (none_in_empty sets line l way is);
  valid = λ line l way is. absurd (none_in_empty sets line l way is);
}
