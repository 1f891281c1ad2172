-- A cache without lines.
use Rattle.std.proofs.Common.{◌≡◌, ℕ, zero, suc, ◌+◌, ◌^◌, ◌≤◌, ◌<◌, Bool, true, false, ◌||◌, eqb, List, [], ◌∷◌, ◌++◌}
use Rattle.std.proofs.Common.{length, map, get_or}
use Rattle.std.proofs.Common.{replicate, refl, ap, sym, subst, ◌∙◌, arith}
use Rattle.std.specs.Int.{IsPowerOfTwo}
use Rattle.std.specs.List.{count_by, sum_by}
use Rattle.std.proofs.lemmas.Bool.{eqb-true, true≢false}
use Rattle.std.proofs.lemmas.Bool.Decides.{nat_tests}
use Rattle.std.proofs.lemmas.List.{length-append, length-replicate}
use Rattle.std.proofs.lemmas.List.Elements.{All-get_or, All-push}
use Rattle.std.proofs.lemmas.List.Folds.{sum_by-replicate}
use Rattle.el_base.proofs.Laws.Ranges.{at_least, at_most, ranges}
use Rattle.el_base.specs.Config.{IsInRange, allows}
use Rattle.el_base.specs.declared.config.Config.{Config}
use Rattle.el_base.specs.declared.config.ConfigFault.TheVariants.{Sets}
use Rattle.line_pool.specs.declared.slot.Slot.{Slot}
use Rattle.cache_sets.specs.declared.line.Line as code
use Rattle.cache_sets.specs.declared.set.Set.{Set}
use Rattle.residency.specs.Cache.{empty_cache, write_bits_of}
use Rattle.cache_sets.specs.Kept.{AreEmpty, IsEmpty, CacheStands, lines_of, residency_of, shown_cache, total}
use Rattle.residency.specs.Cache.{marks_of}
use Rattle.residency.specs.Residency.{Way, is_marked}
use Rattle.cache_sets.specs.Slotted.{empty_slotted}
use Rattle.residency.specs.WellFormed.{IsWellFormed}
use Rattle.cache_sets.proofs.Changes.{unnamed}
use Rattle.residency.proofs.Laws.WellFormedLemmas.{well_formed-empty_cache}

-- sets of which none has lines
pub lines-none : (sets : List Set) → ((k : ℕ) (d : Set) → k < length sets → (get_or sets k d).lines.items ≡ [])
    → lines_of sets ≡ replicate (length sets) []
lines-none [] each = refl
lines-none (set ∷ sets) each =
    ap (λ lines. lines ∷ lines_of sets) (each 0 set (omega arith))
    ∙ ap (λ rest. [] ∷ rest) (lines-none sets (λ k d within. each (suc k) d (omega (arith, within))))

residency-none : (n : ℕ) → residency_of (replicate n []) ≡ empty_cache n
residency-none zero = refl
residency-none (suc n) = ap (λ rest. [] ∷ rest) (residency-none n)

slots-none : (n : ℕ) → map (λ set. map (λ (l : code.Line). l.slot) set) (replicate n []) ≡ replicate n []
slots-none zero = refl
slots-none (suc n) = ap (λ (rest : List (List Slot)). [] ∷ rest) (slots-none n)

total-empty : (f : code.Line → ℕ) (n : ℕ) → total f (replicate n []) ≡ 0
total-empty f n = omega (arith, sum_by-replicate (λ (set : List code.Line). sum_by f set) n [])

module _ (ways count owner : ℕ) (sets : List Set) (are : AreEmpty ways count sets) where
  pub lines-made : lines_of sets ≡ replicate count []
  lines-made =
      lines-none sets (λ k d within. (All-get_or (IsEmpty ways) sets k d within are.each).no_lines)
      ∙ ap (λ n. replicate n []) are.count_is

  pub shown-made : shown_cache ways owner (lines_of sets) ≡ empty_slotted ways count owner
  shown-made =
      ap (shown_cache ways owner) lines-made
      ∙ ap
      (λ r. record {
        ways = ways;
        residency = r;
        owner = owner;
        slots = map (λ set. map (λ (l : code.Line). l.slot) set) (replicate count []);
      })
      (residency-none count)
      ∙ ap (λ s. record { ways = ways; residency = empty_cache count; owner = owner; slots = s }) (slots-none count)

  residency-made : residency_of (lines_of sets) ≡ empty_cache count
  residency-made = ap residency_of lines-made ∙ residency-none count

  made-stands : 1 ≤ ways → ways ≤ 8 → 1 ≤ count → count ≤ 64 → IsPowerOfTwo count → CacheStands ways sets 0 0
  made-stands some_way ways_fit some_set sets_fit binary = record {
    binary = subst IsPowerOfTwo (sym are.count_is) binary;
    sound = record {
      some_way = some_way;
      ways_fit = ways_fit;
      sets_fit = omega (arith, sets_fit, ap length lines-made, length-replicate {A = List code.Line} count []);
      well_formed = subst (IsWellFormed ways) (sym residency-made) (well_formed-empty_cache ways count some_set);
      named = ap (total unnamed) lines-made ∙ total-empty unnamed count;
      marked =
          sym (ap marks_of residency-made
          ∙ omega (arith, sum_by-replicate (λ (set : List Way). count_by is_marked set) count []));
      written =
          sym (ap write_bits_of residency-made
          ∙ omega (arith, sum_by-replicate (λ (set : List Way). count_by (λ (way : Way). way.write) set) count []));
    };
    room = λ k d within. (All-get_or (IsEmpty ways) sets k d within are.each).room;
  }

set_range : (n : ℕ) → allows Sets n ≡ true → (1 ≤ n) × (n ≤ 64)
set_range n allowed = (grind (arith, nat_tests), grind (arith, nat_tests))

-- each number of sets that a cache may have is a power of two
set_power : (n : ℕ) → allows Sets n ≡ true → IsPowerOfTwo n
set_power n =
    this_or 0 n _
    (this_or 1 n _
    (this_or 2 n _
    (this_or 3 n _ (this_or 4 n _ (this_or 5 n _ (this_or 6 n _ (λ none. absurd (true≢false (sym none)))))))))
  where
    this_or : (k n : ℕ) (other : Bool) → (other ≡ true → IsPowerOfTwo n) →
        (eqb (2 ^ k) n || other) ≡ true → IsPowerOfTwo n
    this_or k n other later one = by_test (eqb (2 ^ k) n) refl one
      where
        by_test : (test : Bool) → eqb (2 ^ k) n ≡ test → (test || other) ≡ true → IsPowerOfTwo n
        by_test true is one = (k, sym (eqb-true (2 ^ k) n is))
        by_test false is one = later one

pub stands-made : (config : Config) (sets : List Set) → IsInRange config → AreEmpty config.ways config.sets sets →
    CacheStands config.ways sets 0 0
stands-made config sets in_range are =
    let r = ranges config in_range in
    let sets_range = set_range config.sets r.sets in
    made-stands config.ways config.sets 0 sets are (at_least 1 8 config.ways r.ways) (at_most 1 8 config.ways r.ways)
    sets_range.0 sets_range.1
    (set_power config.sets r.sets)

-- the first sets
pub no_sets : (ways : ℕ) (sets : List Set) → sets ≡ [] → AreEmpty ways 0 sets
no_sets ways [] none = record { count_is = refl; each = λ k d within. absurd (omega (arith, within)) }
no_sets ways (set ∷ sets) none = absurd cc

pub more_sets : (ways count : ℕ) (sets : List Set) (set : Set) → AreEmpty ways count sets → IsEmpty ways set
    → AreEmpty ways (count + 1) (sets ++ set ∷ [])
more_sets ways count sets set are empty = record {
  count_is = omega (arith, length-append sets (set ∷ []), are.count_is);
  each = All-push (IsEmpty ways) sets set are.each empty;
}
