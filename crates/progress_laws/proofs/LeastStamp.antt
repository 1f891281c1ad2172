-- of the stamps that some numbers have, one is least, unless none has any
use Rattle.std.proofs.Common.{◌≡◌, ◌∙◌, ℕ, zero, suc, ◌<◌, Bool, true, false, Option, None, Some, refl, ap, sym, subst}
use Rattle.std.proofs.Common.{inl, inr, ◌⊎◌, arith}
use Rattle.std.proofs.lemmas.Bool.{cases_eq}
use Rattle.stamp.specs.Stamps.{Stamp, is_before, less_of}
use Rattle.stamp.proofs.Laws.StampOrder.{less_strict}
use Rattle.el_base.proofs.Laws.Cases.{true_false}

-- the least stamp below a limit
pub record Least (stamp : ℕ → Option Stamp) (n : ℕ) : Type 0 where
  pub number : ℕ
  pub value : Stamp
  pub below : number < n
  pub is : stamp number ≡ Some value
  pub least : (k : ℕ) → k < n → is_before (stamp k) (Some value) ≡ false

abbrev pub NoStamp : (ℕ → Option Stamp) → ℕ → Type 0
NoStamp stamp n = (k : ℕ) → k < n → stamp k ≡ None

not_itself : (value : Stamp) → is_before (Some value) (Some value) ≡ false
not_itself value = less_strict.irreflexive value

-- what is not before a stamp is not before a less one
not_before_less : (one : Option Stamp) (less greater : Stamp) → less_of less greater ≡ true →
    is_before one (Some greater) ≡ false → is_before one (Some less) ≡ false
not_before_less None less greater before not_before = refl
not_before_less (Some one) less greater before not_before = by (less_of one less) refl
  where
    by : (earlier : Bool) → less_of one less ≡ earlier → earlier ≡ false
    by false is = refl
    by true is = true_false (sym (less_strict.transitive one less greater is before) ∙ not_before)

-- what holds below a limit and at it
pub at_limit : (P : ℕ → Type 0) (n : ℕ) → P n → ((k : ℕ) → k < n → P k) → (k : ℕ) → k < suc n → P k
at_limit P n last others k below = by (cases_eq k n)
  where
    by : (k ≡ n) ⊎ (k ≡ n → ⊥) → P k
    by (inl same) = subst P (sym same) last
    by (inr apart) = others k (omega (arith, below, apart))

module _ (stamp : ℕ → Option Stamp) where
  least_more : (n : ℕ) (last : Option Stamp) → stamp n ≡ last → NoStamp stamp n ⊎ Least stamp n →
      NoStamp stamp (suc n) ⊎ Least stamp (suc n)
  least_more n None is (inl none) = inl (at_limit (λ k. stamp k ≡ None) n is none)
  least_more n None is (inr least) = inr (record {
    number = least.number;
    value = least.value;
    below = let below = least.below in omega (arith, below);
    is = least.is;
    least =
        at_limit (λ k. is_before (stamp k) (Some least.value) ≡ false) n
        (ap (λ s. is_before s (Some least.value)) is) least.least;
  })
  least_more n (Some value) is (inl none) = inr (record {
    number = n;
    value = value;
    below = omega arith;
    is = is;
    least =
        at_limit (λ k. is_before (stamp k) (Some value) ≡ false) n
        (ap (λ s. is_before s (Some value)) is ∙ not_itself value)
        (λ k below. ap (λ s. is_before s (Some value)) (none k below));
  })
  least_more n (Some value) is (inr least) = inr (by (less_of value least.value) refl)
    where
      by : (earlier : Bool) → less_of value least.value ≡ earlier → Least stamp (suc n)
      by true before = record {
        number = n;
        value = value;
        below = omega arith;
        is = is;
        least =
            at_limit (λ k. is_before (stamp k) (Some value) ≡ false) n
            (ap (λ s. is_before s (Some value)) is ∙ not_itself value)
            (λ k below. not_before_less (stamp k) value least.value before (least.least k below));
      }
      by false later = record {
        number = least.number;
        value = least.value;
        below = let below = least.below in omega (arith, below);
        is = least.is;
        least =
            at_limit (λ k. is_before (stamp k) (Some least.value) ≡ false) n
            (ap (λ s. is_before s (Some least.value)) is ∙ later)
            least.least;
      }

  pub least_below : (n : ℕ) → NoStamp stamp n ⊎ Least stamp n
  least_below zero = inl (λ k below. absurd (omega (arith, below)))
  least_below (suc n) = least_more n (stamp n) refl (least_below n)
