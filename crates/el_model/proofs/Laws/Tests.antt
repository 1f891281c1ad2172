-- how a choice by a test is taken apart
use Rattle.std.proofs.Common.{◌≡◌, ◌≢◌, ◌∙◌, ◌==◌, ℕ, Bool, true, false, refl, sym, ap, if◌then◌else◌}
use Rattle.el_base.proofs.Laws.Tests.{number_of_test, own_test}

-- what holds of both branches, each where its test says so, holds of the choice
pub by_test : {A : Type 0} (P : A → Type 0) (test : Bool) (x y : A) → (test ≡ true → P x) → (test ≡ false → P y) →
    P (if test then x else y)
by_test P true x y then_x then_y = then_x refl
by_test P false x y then_x then_y = then_y refl

-- the same of a choice by whether a hart is another
pub by_hart : {A : Type 0} (P : A → Type 0) (h other : ℕ) (x y : A) → (h ≡ other → P x) → (h ≢ other → P y) →
    P (if h == other then x else y)
by_hart P h other x y same apart =
    by_test P (h == other) x y (λ is. same (number_of_test h other is))
    (λ is. apart (λ equal. differ (sym is ∙ own_of equal)))
  where
    differ : false ≡ true → ⊥
    differ wrong = absurd (cc)

    own_of : h ≡ other → (h == other) ≡ true
    own_of equal = ap (λ k. k == other) equal ∙ own_test other
