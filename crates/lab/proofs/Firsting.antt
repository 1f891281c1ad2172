-- each element of a list once, at its first place
use Rattle.std.proofs.Common.{◌≡◌, ◌∙◌, ◌||◌, Bool, true, false, cond, List, [], ◌∷◌, ◌++◌, ap, append-nil, refl, sym}
use Rattle.std.specs.Prelude.{filter, not}
use Rattle.std.specs.Cmp.{IsEquivalence}
use Rattle.std.specs.List.{list_any}
use Rattle.std.proofs.lemmas.List.Elements.{filter-append}
use Rattle.std.proofs.lemmas.Map.Views.{any-filter_same}
use Rattle.lab.specs.Firsts.{firsts}

pub or_flip : (a b : Bool) → (a || (b || false)) ≡ cond b true a
or_flip true true = refl
or_flip true false = refl
or_flip false true = refl
or_flip false false = refl

or_same : (a b c : Bool) → (a ≡ false → b ≡ c) → (a || b) ≡ (a || c)
or_same true b c same = refl
or_same false b c same = same refl

module _ {X : Type 0} {same : X → X → Bool} (laws : IsEquivalence same) where
  -- what another element is the same as stays where this one's are taken out
  kept : (x y z : X) → same x y ≡ false → same x z ≡ true → not (same y z) ≡ true
  kept x y z apart found = ap not (sym (laws.congr x z y found ∙ laws.symm z y) ∙ apart)

  without : (x y : X) (xs : List X) → same x y ≡ false →
      list_any (same x) (filter (λ z. not (same y z)) xs) ≡ list_any (same x) xs
  without x y xs apart = any-filter_same (same x) (λ z. not (same y z)) true (λ z found. kept x y z apart found) xs

  -- the same elements are there
  pub any_of_firsts : (x : X) (xs : List X) → list_any (same x) (firsts same xs) ≡ list_any (same x) xs
  any_of_firsts x [] = refl
  any_of_firsts x (y ∷ xs) =
      or_same (same x y) (list_any (same x) (filter (λ z. not (same y z)) (firsts same xs))) (list_any (same x) xs)
      (λ apart. without x y (firsts same xs) apart ∙ any_of_firsts x xs)

  -- one more behind
  pub firsts_push : (xs : List X) (x : X) →
      firsts same (xs ++ x ∷ []) ≡ cond (list_any (same x) (firsts same xs)) (firsts same xs) (firsts same xs ++ x ∷ [])
  firsts_push [] x = refl
  firsts_push (y ∷ xs) x =
      ap (λ l. y ∷ filter keep l) (firsts_push xs x) ∙ by (same x y) refl (list_any (same x) (firsts same xs)) refl
    where
      keep : X → Bool
      keep z = not (same y z)

      last : (b : Bool) → same x y ≡ b → filter keep (x ∷ []) ≡ cond b [] (x ∷ [])
      last true e = ap (λ b. cond (not b) (x ∷ []) []) (laws.symm y x ∙ e)
      last false e = ap (λ b. cond (not b) (x ∷ []) []) (laws.symm y x ∙ e)

      more : (b : Bool) → same x y ≡ b →
          filter keep (firsts same xs ++ x ∷ []) ≡ filter keep (firsts same xs) ++ cond b [] (x ∷ [])
      more b e = filter-append keep (firsts same xs) (x ∷ []) ∙ ap (λ l. filter keep (firsts same xs) ++ l) (last b e)

      chosen : (c : Bool) → list_any (same x) (filter keep (firsts same xs)) ≡ c →
          cond c (y ∷ filter keep (firsts same xs)) (y ∷ filter keep (firsts same xs) ++ x ∷ [])
          ≡ cond (list_any (same x) (filter keep (firsts same xs)))
          (y ∷ filter keep (firsts same xs)) (y ∷ filter keep (firsts same xs) ++ x ∷ [])
      chosen c e =
          ap (λ b. cond b (y ∷ filter keep (firsts same xs)) (y ∷ filter keep (firsts same xs) ++ x ∷ [])) (sym e)

      by : (b : Bool) → same x y ≡ b → (c : Bool) → list_any (same x) (firsts same xs) ≡ c →
          y ∷ filter keep (cond c (firsts same xs) (firsts same xs ++ x ∷ []))
          ≡ cond (b || list_any (same x) (filter keep (firsts same xs)))
          (y ∷ filter keep (firsts same xs)) (y ∷ filter keep (firsts same xs) ++ x ∷ [])
      by true e true d = refl
      by true e false d = ap (λ l. y ∷ l) (more true e ∙ append-nil (filter keep (firsts same xs)))
      by false e true d = chosen true (without x y (firsts same xs) e ∙ d)
      by false e false d = ap (λ l. y ∷ l) (more false e) ∙ chosen false (without x y (firsts same xs) e ∙ d)
