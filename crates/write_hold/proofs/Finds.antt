-- What a look-up finds in a list after an element was taken out or put at its end, and what `position` tells of it.
use Rattle.std.proofs.Common.{◌≡◌, ℕ, zero, suc, ◌+◌, ◌<◌, cond, Bool, true, false, List, [], ◌∷◌, ◌++◌, length, get_or}
use Rattle.std.proofs.Common.{Option, None, Some, is_some}
use Rattle.std.proofs.Common.{refl, ap, sym, ◌∙◌, arith}
use Rattle.std.specs.List.{count_by, find, position, remove, slice_get}
use Rattle.std.specs.Option.{option_or}
use Rattle.std.proofs.lemmas.List.Folds.{find-append, find_at}
use Rattle.std.proofs.lemmas.List.Sums.{sum_by-cons}
use Rattle.std.proofs.lemmas.Option.{slice_get-get_or, slice_get_read}
use Rattle.el_base.proofs.Laws.ListLaws.{find_by_no_position, place_by_position}

module _ {X : Type 0} (p : X → Bool) where
  -- an element that is not looked for was taken out
  pub find_removed_other : (xs : List X) (i : ℕ) (d : X) → i < length xs → p (get_or xs i d) ≡ false →
      find p (remove xs i) ≡ find p xs
  find_removed_other [] i d within not_it = absurd (omega arith)
  find_removed_other (x ∷ xs) zero d within not_it = sym (ap (λ own. cond own (Some x) (find p xs)) not_it)
  find_removed_other (x ∷ xs) (suc i) d within not_it =
      ap (cond (p x) (Some x)) (find_removed_other xs i d (omega arith) not_it)

  -- an element came at the end, and is looked for or not
  pub find_pushed_same : (xs : List X) (y : X) → find p xs ≡ None → p y ≡ true → find p (xs ++ y ∷ []) ≡ Some y
  find_pushed_same xs y none passes =
      find-append p xs (y ∷ []) ∙ ap (λ found. option_or found (find p (y ∷ []))) none
      ∙ ap (λ own. cond own (Some y) None) passes

  pub find_pushed_other : (xs : List X) (y : X) → p y ≡ false → find p (xs ++ y ∷ []) ≡ find p xs
  find_pushed_other xs y fails =
      find-append p xs (y ∷ []) ∙ ap (λ own. option_or (find p xs) (cond own (Some y) None)) fails ∙ or_none (find p xs)
    where
      or_none : (found : Option X) → option_or found None ≡ found
      or_none None = refl
      or_none (Some x) = refl

  -- nothing passes exactly where none is counted
  pub find_none_counted : (xs : List X) → count_by p xs ≡ 0 → find p xs ≡ None
  find_none_counted [] none = refl
  find_none_counted (x ∷ xs) none =
      step (p x) (omega (arith, sum_by-cons (λ y. cond (p y) 1 0) x xs)) (find_none_counted xs)
    where
      step : (own : Bool) → cond own 1 0 + count_by p xs ≡ 0 → (count_by p xs ≡ 0 → find p xs ≡ None)
          → cond own (Some x) (find p xs) ≡ None
      step true none rest = absurd (omega arith)
      step false none rest = rest (omega arith)

  pub count_none_found : (xs : List X) → find p xs ≡ None → count_by p xs ≡ 0
  count_none_found [] none = refl
  count_none_found (x ∷ xs) none = sum_by-cons (λ y. cond (p y) 1 0) x xs ∙ step (p x) none (count_none_found xs)
    where
      step : (own : Bool) → cond own (Some x) (find p xs) ≡ None → (find p xs ≡ None → count_by p xs ≡ 0)
          → cond own 1 0 + count_by p xs ≡ 0
      step true none rest = absurd cc
      step false none rest = omega (arith, rest none)

  -- what was read at the place that `position` tells
  pub found_at_position : (xs : List X) (i : ℕ) (x : X) → position p xs ≡ Some i → x ≡ get_or xs i x →
      find p xs ≡ Some x
  found_at_position xs i x is read =
      let at = place_by_position p xs i is in
      find_at p xs ∙ ap (slice_get xs) at.0 ∙ slice_get_read xs (length xs) i x refl at.1 read

  -- whether there is a place
  pub is_some_position : (xs : List X) (place : Option ℕ) → position p xs ≡ place → is_some place ≡ is_some (find p xs)
  is_some_position xs None is = ap is_some (sym (find_by_no_position p xs is))
  is_some_position [] (Some i) is = absurd cc
  is_some_position (x ∷ xs) (Some i) is =
      let at = place_by_position p (x ∷ xs) i is in
      sym (ap is_some (find_at p (x ∷ xs) ∙ ap (slice_get (x ∷ xs)) at.0 ∙ slice_get-get_or (x ∷ xs) i x at.1))
