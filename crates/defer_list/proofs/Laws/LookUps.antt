-- What a set has after each call: of the same hart, and of another one.
use Rattle.std.proofs.Common.{◌≡◌, ◌≢◌, ℕ, ◌==◌, Bool, true, false, cond, List, [], ◌∷◌, refl, ap, sym, ◌∙◌, arith}
use Rattle.std.proofs.lemmas.Bool.Decides.{nat_tests}
use Rattle.defer_list.specs.HartSet.{has, included, excluded}
use Rattle.el_base.proofs.Laws.Tests.{other_test, own_test}

pub has_included_own : (harts : List ℕ) (hart : ℕ) → has (included harts hart) hart ≡ true
has_included_own harts hart = step (has harts hart) refl
  where
    step : (there : Bool) → has harts hart ≡ there → has (cond there harts (hart ∷ harts)) hart ≡ true
    step true is = is
    step false is = ap (λ test. cond test true (has harts hart)) (own_test hart)

pub has_included_other : (harts : List ℕ) (new hart : ℕ) → new ≢ hart → has (included harts new) hart ≡ has harts hart
has_included_other harts new hart differ = step (has harts new)
  where
    step : (there : Bool) → has (cond there harts (new ∷ harts)) hart ≡ has harts hart
    step true = refl
    step false = ap (λ test. cond test true (has harts hart)) (other_test new hart differ)

pub has_excluded_own : (harts : List ℕ) (hart : ℕ) → has (excluded harts hart) hart ≡ false
has_excluded_own [] hart = refl
has_excluded_own (first ∷ harts) hart = step (first == hart) refl (has_excluded_own harts hart)
  where
    step : (own : Bool) → (first == hart) ≡ own → has (excluded harts hart) hart ≡ false
        → has (cond own (excluded harts hart) (first ∷ excluded harts hart)) hart ≡ false
    step true is rest = rest
    step false is rest = ap (λ test. cond test true (has (excluded harts hart) hart)) is ∙ rest

pub has_excluded_other : (harts : List ℕ) (gone hart : ℕ) → gone ≢ hart →
    has (excluded harts gone) hart ≡ has harts hart
has_excluded_other [] gone hart differ = refl
has_excluded_other (first ∷ harts) gone hart differ =
    step (first == gone) refl (has_excluded_other harts gone hart differ)
  where
    not_it : (first == gone) ≡ true → (first == hart) ≡ false
    not_it own = let one : first ≡ gone = grind (arith, nat_tests) in grind (arith, nat_tests)

    step : (own : Bool) → (first == gone) ≡ own → has (excluded harts gone) hart ≡ has harts hart
        → has (cond own (excluded harts gone) (first ∷ excluded harts gone)) hart ≡ has (first ∷ harts) hart
    step true is rest = rest ∙ sym (ap (λ test. cond test true (has harts hart)) (not_it is))
    step false is rest = ap (cond (first == hart) true) rest
