-- what holds of each element of a list by its place, and of one put behind it
use Rattle.std.proofs.Common.{◌≡◌, ℕ, zero, suc, ◌<◌, ◌≤◌, ◌⊎◌, List, [], ◌∷◌, ◌++◌, None, Some, get_or, inl, inr}
use Rattle.std.proofs.Common.{length, refl, subst, arith}
use Rattle.std.specs.Prelude.{slice_get}
use Rattle.std.proofs.lemmas.Option.{same_Some, slice_get_cases}

pub each_pushed : {X : Type 0} (P : ℕ → X → Type 0) (xs : List X) (x : X) →
    ((i : ℕ) (y : X) → slice_get xs i ≡ Some y → P i y) → ((n : ℕ) → n ≡ length xs → P n x) →
    (i : ℕ) (y : X) → slice_get (xs ++ x ∷ []) i ≡ Some y → P i y
each_pushed P [] x each last zero y e = subst (P 0) (same_Some x y e) (last 0 refl)
each_pushed P [] x each last (suc i) y e = absurd cc
each_pushed P (z ∷ xs) x each last zero y e = each zero y e
each_pushed P (z ∷ xs) x each last (suc i) y e =
    each_pushed (λ k. P (suc k)) xs x (λ k w f. each (suc k) w f)
    (λ n f. let more : suc n ≡ length (z ∷ xs) = omega (arith, f) in last (suc n) more)
    i y e

-- the element at a place
pub there : {X : Type 0} (xs : List X) (i : ℕ) → i < length xs → (x : X) × (slice_get xs i ≡ Some x)
there {X = X} xs i within = by (slice_get_cases xs i).1
  where
    by : ((x : X) × (i < length xs) × (slice_get xs i ≡ Some x) × (get_or xs i x ≡ x))
        ⊎ ((length xs ≤ i) × (slice_get xs i ≡ None)) → (x : X) × (slice_get xs i ≡ Some x)
    by (inl found) = (found.0, found.2)
    by (inr past) = absurd (omega (arith, past.0, within))
