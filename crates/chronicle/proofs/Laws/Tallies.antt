-- The tally of a history, one entry after another.
use Rattle.std.proofs.Common.{◌≡◌, ℕ, ◌+◌, ◌*◌, ◌^◌, ◌<◌, List, [], ◌∷◌, ◌++◌, IsTrue, length, take, get_or, refl, ap}
use Rattle.std.proofs.Common.{sym, ◌∙◌, arith}
use Rattle.std.specs.Prelude.{Bool, nat_le, nat_lt, ◌&&◌}
use Rattle.std.specs.List.{list_all}
use Rattle.std.proofs.lemmas.Bool.Decides.{nat_tests}
use Rattle.std.proofs.lemmas.List.{take_more}
use Rattle.std.proofs.lemmas.List.Sums.{sum_by_push}
use Rattle.el_base.specs.declared.entries.Entry.{Entry}
use Rattle.chronicle.specs.Serial.{most_effects}
use Rattle.chronicle.specs.Tally.{nothing, tally_of, of_entry, plus, numbers, IsTallyOf, SumFits}
use Rattle.chronicle.specs.declared.tally.Tally.{Tally}

-- one entry more adds what it counts for
pub tally_of-push : (hart : ℕ) (entries : List Entry) (entry : Entry) →
    tally_of hart (entries ++ entry ∷ []) ≡ plus (tally_of hart entries) (of_entry hart entry)
unfolding tally_of plus
tally_of-push hart entries entry = simp sum_by_push

pub tally_more : (hart : ℕ) (entries : List Entry) (place : ℕ) (entry : Entry) → place < length entries →
    entry ≡ get_or entries place entry →
    plus (tally_of hart (take place entries)) (of_entry hart entry) ≡ tally_of hart (take (place + 1) entries)
tally_more hart entries place entry within here =
    sym (tally_of-push hart (take place entries) entry)
    ∙ ap (λ (e : Entry). tally_of hart (take place entries ++ e ∷ [])) here
    ∙ ap (λ (l : List Entry). tally_of hart l) (sym (take_more entries place entry within))

-- the sums of the numbers of two lists
abbrev sums : List ℕ → List ℕ → List ℕ
sums (x ∷ xs) (y ∷ ys) = (x + y) ∷ sums xs ys
sums _ _ = []

abbrev IsSmall : ℕ → List ℕ → Type 0
IsSmall n xs = IsTrue (list_all (λ x. nat_le x (n * most_effects)) xs)

both_small : (n x y : ℕ) (first second later : Bool) → IsTrue (nat_le x (n * most_effects) && first) →
    IsTrue (nat_le y (1 * most_effects) && second) → (IsTrue first → IsTrue second → IsTrue later) →
    IsTrue (nat_le (x + y) ((n + 1) * most_effects) && later)
both_small n x y first second later one two others = grind (arith, nat_tests)

sums_small : (n : ℕ) (xs ys : List ℕ) → IsSmall n xs → IsSmall 1 ys → IsSmall (n + 1) (sums xs ys)
sums_small n [] ys first second = refl
sums_small n (x ∷ xs) [] first second = refl
sums_small n (x ∷ xs) (y ∷ ys) first second = both_small n x y _ _ _ first second (sums_small n xs ys)

pub plus_small : (n : ℕ) (a b : Tally) → IsTallyOf n a → IsTallyOf 1 b → IsTallyOf (n + 1) (plus a b)
unfolding plus IsTallyOf
plus_small n a b first second = sums_small n (numbers a) (numbers b) first second

pub none_small : IsTallyOf 0 nothing
unfolding IsTallyOf
none_small = refl

pub no_tally : (hart : ℕ) → nothing ≡ tally_of hart []
unfolding tally_of
no_tally hart = refl

one_fits : (n : ℕ) → n < 2 ^ 32 → (x : ℕ) (others fit : Bool) → IsTrue (nat_le x (n * most_effects) && others) →
    (IsTrue others → IsTrue fit) → IsTrue (nat_lt x (2 ^ 64) && fit)
one_fits n few x others fit small rest = grind (arith, nat_tests)

small_fit : (n : ℕ) → n < 2 ^ 32 → (xs : List ℕ) → IsSmall n xs → IsTrue (list_all (λ x. nat_lt x (2 ^ 64)) xs)
small_fit n few [] small = refl
small_fit n few (x ∷ xs) small = one_fits n few x _ _ small (small_fit n few xs)

-- the tally of less than 2 ^ 32 events can take one event more
pub sum_fits : (n : ℕ) (a b : Tally) → n + 1 < 2 ^ 32 → IsTallyOf n a → IsTallyOf 1 b → SumFits a b
unfolding plus IsTallyOf SumFits
sum_fits n a b few first second =
    small_fit (n + 1) few (sums (numbers a) (numbers b)) (sums_small n (numbers a) (numbers b) first second)

-- what a loop over the entries needs
pub ruleset tally_laws = (no_tally, tally_more, none_small, plus_small, sum_fits)

-- what counts for nothing adds nothing
pub plus_nothing : (tally : Tally) → plus tally nothing ≡ tally
unfolding plus
plus_nothing tally = grind arith
