-- No hart is in a set twice, so that a place for each hart is enough; and what the calls do
-- to the list that the code keeps.
use Rattle.std.proofs.Common.{◌≡◌, ℕ, ◌+◌, ◌<◌, ◌≤◌, ◌==◌, not, Bool, true, false, cond, List}
use Rattle.std.proofs.Common.{[], ◌∷◌, length, refl, ap, sym, ◌∙◌, arith}
use Rattle.std.specs.List.{count_by, filter}
use Rattle.std.proofs.lemmas.Bool.Decides.{nat_tests}
use Rattle.std.proofs.lemmas.List.Sums.{sum_by-cons}
use Rattle.defer_list.specs.declared.told.Origin.{Origin}
use Rattle.el_base.proofs.Laws.ListLaws.{count_of_map, filter_of_map, length_by_codes}
use Rattle.defer_list.specs.HartSet.{has, included, excluded, numbers, IsOnceEach}

abbrev count_of : List ℕ → ℕ → ℕ
count_of harts hart = count_by (λ other. other == hart) harts

count_of_cons : (first : ℕ) (harts : List ℕ) (hart : ℕ) →
    count_of (first ∷ harts) hart ≡ cond (first == hart) 1 0 + count_of harts hart
count_of_cons first harts hart = sum_by-cons (λ other. cond (other == hart) 1 0) first harts

count_of_absent : (harts : List ℕ) (hart : ℕ) → has harts hart ≡ false → count_of harts hart ≡ 0
count_of_absent [] hart none = refl
count_of_absent (first ∷ harts) hart none = rw count_of_cons (step (first == hart) none (count_of_absent harts hart))
  where
    step : (own : Bool) → cond own true (has harts hart) ≡ false
        → (has harts hart ≡ false → count_of harts hart ≡ 0) → cond own 1 0 + count_of harts hart ≡ 0
    step true none rest = absurd cc
    step false none rest = omega (arith, rest none)

-- each call keeps it so
pub once_each_cons : (harts : List ℕ) (new : ℕ) → IsOnceEach harts → has harts new ≡ false → IsOnceEach (new ∷ harts)
once_each_cons harts new once none hart =
    grind (arith, nat_tests, count_of_cons new harts hart, once hart, count_of_absent harts new none)

pub once_each_included : (harts : List ℕ) (new : ℕ) → IsOnceEach harts → IsOnceEach (included harts new)
once_each_included harts new once = step (has harts new) refl
  where
    step : (there : Bool) → has harts new ≡ there → IsOnceEach (cond there harts (new ∷ harts))
    step true is = once
    step false is = once_each_cons harts new once is

count_of_excluded : (harts : List ℕ) (gone hart : ℕ) → count_of (excluded harts gone) hart ≤ count_of harts hart
count_of_excluded [] gone hart = omega arith
count_of_excluded (first ∷ harts) gone hart = step (first == gone) (count_of_excluded harts gone hart)
  where
    step : (own : Bool) → count_of (excluded harts gone) hart ≤ count_of harts hart
        → count_of (cond own (excluded harts gone) (first ∷ excluded harts gone)) hart ≤ count_of (first ∷ harts) hart
    step true rest = omega (arith, rest, count_of_cons first harts hart)
    step false rest =
        omega (arith, rest, count_of_cons first harts hart, count_of_cons first (excluded harts gone) hart)

pub once_each_excluded : (harts : List ℕ) (gone : ℕ) → IsOnceEach harts → IsOnceEach (excluded harts gone)
once_each_excluded harts gone once hart = omega (arith, count_of_excluded harts gone hart, once hart)

-- a hart that is not there is not taken out
pub excluded_absent : (harts : List ℕ) (hart : ℕ) → has harts hart ≡ false → excluded harts hart ≡ harts
excluded_absent [] hart none = refl
excluded_absent (first ∷ harts) hart none = step (first == hart) none (excluded_absent harts hart)
  where
    step : (own : Bool) → cond own true (has harts hart) ≡ false →
        (has harts hart ≡ false → excluded harts hart ≡ harts)
        → cond own (excluded harts hart) (first ∷ excluded harts hart) ≡ first ∷ harts
    step true none rest = absurd cc
    step false none rest = ap (λ l. first ∷ l) (rest none)

excluded_filter : (harts : List ℕ) (hart : ℕ) → excluded harts hart ≡ filter (λ other. not (other == hart)) harts
excluded_filter [] hart = refl
excluded_filter (first ∷ harts) hart = step (first == hart) (excluded_filter harts hart)
  where
    kept : List ℕ
    kept = filter (λ other. not (other == hart)) harts

    step : (own : Bool) → excluded harts hart ≡ kept
        → cond own (excluded harts hart) (first ∷ excluded harts hart) ≡ cond (not own) (first ∷ kept) kept
    step true rest = rest
    step false rest = ap (λ l. first ∷ l) rest

-- one more
pub fits_one : (items : List Origin) (new : Origin) → IsOnceEach (numbers items) →
    has (numbers items) new.hart.number ≡ false → length items < 8
fits_one items new once none =
    let joined : IsOnceEach (numbers (new ∷ items)) = once_each_cons (numbers items) new.hart.number once none in
    let all : length (new ∷ items) ≤ 8 =
    length_by_codes (λ one. one.hart.number) 8 (new ∷ items) (λ one. one.hart.small)
    (λ hart. omega (arith, count_of_map (λ one. one.hart.number) (λ one. one == hart) (new ∷ items), joined hart))
    in
    omega (arith, all)

pub added_included : (items : List Origin) (new : Origin) → has (numbers items) new.hart.number ≡ false
    → numbers (new ∷ items) ≡ included (numbers items) new.hart.number
added_included items new none = sym (ap (λ there. cond there (numbers items) (new.hart.number ∷ numbers items)) none)

pub known_included : (items : List Origin) (new : Origin) → has (numbers items) new.hart.number ≡ true
    → numbers items ≡ included (numbers items) new.hart.number
known_included items new there = sym (ap (λ there. cond there (numbers items) (new.hart.number ∷ numbers items)) there)

-- and one less
module _ (items : List Origin) (hart : ℕ) where
  pub filter_excluded : numbers (filter (λ other. not (other.hart.number == hart)) items)
      ≡ excluded (numbers items) hart
  filter_excluded =
      sym (excluded_filter (numbers items) hart ∙ filter_of_map (λ one. one.hart.number)
      (λ other. not (other == hart)) items)
