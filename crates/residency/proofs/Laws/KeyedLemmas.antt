-- Lists whose elements have a key: what is found under a key, and what stays after elements are taken out or changed.
use Rattle.residency.specs.Keyed.{changed, changed_at, count_of, found, fronted, without}
use Rattle.std.proofs.Common.{◌≡◌, ◌≢◌, ℕ, zero, suc, ◌+◌, ◌≤◌, ◌<◌, cond, eqb, List, [], ◌∷◌, length, map, get_or}
use Rattle.std.proofs.Common.{Option, None, Some, option_map, is_some}
use Rattle.std.proofs.Common.{refl, ap, sym, ◌∙◌, inl, inr, arith}
use Rattle.std.specs.Option.{option_map_or}
use Rattle.std.proofs.lemmas.Bool.{cases_eq, cases_lt}
use Rattle.std.specs.List.{position, position_or_len, remove, sum_by}
use Rattle.std.proofs.lemmas.List.Folds.{find_at}
use Rattle.std.proofs.lemmas.List.Quantifiers.{position-Some}
use Rattle.std.proofs.lemmas.Option.{slice_get-get_or, slice_get_past, slice_get_read}
use Rattle.std.specs.Prelude.{slice_get}
use Rattle.std.proofs.lemmas.Bool.{eqb-true}
use Rattle.std.proofs.lemmas.Bool.Decides.{nat_tests}
use Rattle.std.proofs.lemmas.List.Sums.{sum_by-cons, get_or-le-sum_by}
use Rattle.std.proofs.Math.ListN.{set}

module _ {X : Type 0} (key : X → ℕ) where
  pub found-without_same : (xs : List X) (k : ℕ) → found key (without key xs k) k ≡ None
  found-without_same [] k = refl
  found-without_same (x ∷ xs) k = grind (arith, nat_tests, found-without_same xs k)

  pub found-without_other : (xs : List X) (k j : ℕ) → j ≢ k → found key (without key xs k) j ≡ found key xs j
  found-without_other [] k j other = refl
  found-without_other (x ∷ xs) k j other = grind (arith, nat_tests, found-without_other xs k j other)

  pub without-absent : (xs : List X) (k : ℕ) → found key xs k ≡ None → without key xs k ≡ xs
  without-absent [] k none = refl
  without-absent (x ∷ xs) k none = grind (arith, nat_tests, without-absent xs k)

  pub found-changed_same : (change : X → X) (xs : List X) (k : ℕ) → ((x : X) → key (change x) ≡ key x) →
      found key (changed key change xs k) k ≡ option_map change (found key xs k)
  found-changed_same change [] k kept = refl
  found-changed_same change (x ∷ xs) k kept = grind (arith, nat_tests, kept x, found-changed_same change xs k kept)

  pub found-changed_other : (change : X → X) (xs : List X) (k j : ℕ) → ((x : X) → key (change x) ≡ key x) → j ≢ k →
      found key (changed key change xs k) j ≡ found key xs j
  found-changed_other change [] k j kept other = refl
  found-changed_other change (x ∷ xs) k j kept other =
      grind (arith, nat_tests, kept x, found-changed_other change xs k j kept other)

  pub found-key : (xs : List X) (k : ℕ) (x : X) → found key xs k ≡ Some x → key x ≡ k
  found-key [] k y is = absurd cc
  found-key (x ∷ xs) k y is = grind (arith, nat_tests, found-key xs k y)

  pub found-none_counted : (xs : List X) (k : ℕ) → count_of key xs k ≡ 0 → found key xs k ≡ None
  found-none_counted [] k none = refl
  found-none_counted (x ∷ xs) k none =
      grind (arith, nat_tests, sum_by-cons (λ y. cond (eqb (key y) k) 1 0) x xs, found-none_counted xs k)

  pub count_of-found : (xs : List X) (k : ℕ) → found key xs k ≡ None → count_of key xs k ≡ 0
  count_of-found [] k none = refl
  count_of-found (x ∷ xs) k none =
      grind (arith, nat_tests, sum_by-cons (λ y. cond (eqb (key y) k) 1 0) x xs, count_of-found xs k)

  -- an element counts
  pub counted_at : (xs : List X) (k i : ℕ) (d : X) → i < length xs → key (get_or xs i d) ≡ k → 1 ≤ count_of key xs k
  counted_at xs k i d within is =
      let test : X → ℕ = λ x. cond (eqb (key x) k) 1 0 in
      let here : test (get_or xs i d) ≡ 1 = grind (arith, nat_tests) in
      omega (arith, get_or-le-sum_by test xs i d within, here)

  -- an element at an index, where its key is there once
  pub found_at : (xs : List X) (k i : ℕ) (d : X) → count_of key xs k ≤ 1 → i < length xs → key (get_or xs i d) ≡ k →
      found key xs k ≡ Some (get_or xs i d)
  found_at [] k i d once within is = absurd (omega arith)
  found_at (x ∷ xs) k zero d once within is = grind (arith, nat_tests)
  found_at (x ∷ xs) k (suc i) d once within is =
      let inside : i < length xs = omega arith in
      let counted : 1 ≤ count_of key xs k = counted_at xs k i d inside is in
      let rest : found key xs k ≡ Some (get_or xs i d) =
      found_at xs k i d (grind (arith, nat_tests, sum_by-cons (λ y. cond (eqb (key y) k) 1 0) x xs)) inside is in
      grind (arith, nat_tests, sum_by-cons (λ y. cond (eqb (key y) k) 1 0) x xs)

  pub remove-without : (xs : List X) (k i : ℕ) (d : X) → count_of key xs k ≤ 1 → i < length xs →
      key (get_or xs i d) ≡ k → remove xs i ≡ without key xs k
  remove-without [] k i d once within is = absurd (omega arith)
  remove-without (x ∷ xs) k zero d once within is =
      let absent : found key xs k ≡ None =
      found-none_counted xs k (grind (arith, nat_tests, sum_by-cons (λ y. cond (eqb (key y) k) 1 0) x xs)) in
      grind (arith, nat_tests, without-absent xs k absent)
  remove-without (x ∷ xs) k (suc i) d once within is =
      let inside : i < length xs = omega arith in
      let counted : 1 ≤ count_of key xs k = counted_at xs k i d inside is in
      let rest : remove xs i ≡ without key xs k =
      remove-without xs k i d (grind (arith, nat_tests, sum_by-cons (λ y. cond (eqb (key y) k) 1 0) x xs)) inside is in
      grind (arith, nat_tests, sum_by-cons (λ y. cond (eqb (key y) k) 1 0) x xs)

  pub changed-absent : (change : X → X) (xs : List X) (k : ℕ) → found key xs k ≡ None → changed key change xs k ≡ xs
  changed-absent change [] k none = refl
  changed-absent change (x ∷ xs) k none = grind (arith, nat_tests, changed-absent change xs k)

  pub set-changed : (change : X → X) (xs : List X) (k i : ℕ) (d : X) → count_of key xs k ≤ 1 → i < length xs →
      key (get_or xs i d) ≡ k → set xs i (change (get_or xs i d)) ≡ changed key change xs k
  set-changed change [] k i d once within is = absurd (omega arith)
  set-changed change (x ∷ xs) k zero d once within is =
      let absent : found key xs k ≡ None =
      found-none_counted xs k (grind (arith, nat_tests, sum_by-cons (λ y. cond (eqb (key y) k) 1 0) x xs)) in
      grind (arith, nat_tests, changed-absent change xs k absent)
  set-changed change (x ∷ xs) k (suc i) d once within is =
      let inside : i < length xs = omega arith in
      let counted : 1 ≤ count_of key xs k = counted_at xs k i d inside is in
      let rest : set xs i (change (get_or xs i d)) ≡ changed key change xs k =
      set-changed change xs k i d (grind (arith, nat_tests, sum_by-cons (λ y. cond (eqb (key y) k) 1 0) x xs)) inside
      is in
      grind (arith, nat_tests, sum_by-cons (λ y. cond (eqb (key y) k) 1 0) x xs)

  -- a sum over the list without an element, and with it changed, where its key is there once
  pub sum_by-without : (f : X → ℕ) (xs : List X) (k : ℕ) → count_of key xs k ≤ 1 →
      sum_by f (without key xs k) + option_map_or f (found key xs k) 0 ≡ sum_by f xs
  sum_by-without f [] k once = refl
  sum_by-without f (x ∷ xs) k once =
      let counts = sum_by-cons (λ y. cond (eqb (key y) k) 1 0) x xs in
      let sums = sum_by-cons f x xs in
      elim (cases_eq (key x) k) [
        | inl same ↦
            let absent : found key xs k ≡ None = found-none_counted xs k (grind (arith, nat_tests, counts)) in
            grind (arith, nat_tests, sums, without-absent xs k absent)
        | inr other ↦
            grind (arith, nat_tests, counts, sums, sum_by-cons f x (without key xs k), sum_by-without f xs k)
      ]

  pub sum_by-changed : (f : X → ℕ) (change : X → X) (xs : List X) (k : ℕ) → count_of key xs k ≤ 1 →
      sum_by f (changed key change xs k) + option_map_or f (found key xs k) 0
      ≡ sum_by f xs + option_map_or (λ x. f (change x)) (found key xs k) 0
  sum_by-changed f change [] k once = refl
  sum_by-changed f change (x ∷ xs) k once =
      let counts = sum_by-cons (λ y. cond (eqb (key y) k) 1 0) x xs in
      let sums = sum_by-cons f x xs in
      let changed_sums = sum_by-cons f (changed_at key change k x) (changed key change xs k) in
      elim (cases_eq (key x) k) [
        | inl same ↦
            let absent : found key xs k ≡ None = found-none_counted xs k (grind (arith, nat_tests, counts)) in
            grind (arith, nat_tests, sums, changed_sums, changed-absent change xs k absent)
        | inr other ↦
            grind (arith, nat_tests, counts, sums, changed_sums, sum_by-changed f change xs k)
      ]

  -- what is found has its part in a sum, and two that are found have theirs
  pub found-le-sum_by : (f : X → ℕ) (xs : List X) (k : ℕ) (x : X) → found key xs k ≡ Some x → f x ≤ sum_by f xs
  found-le-sum_by f [] k x is = absurd cc
  found-le-sum_by f (y ∷ xs) k x is = grind (arith, nat_tests, sum_by-cons f y xs, found-le-sum_by f xs k x)

  pub two_found : (f : X → ℕ) (xs : List X) (k j : ℕ) (x y : X) → count_of key xs k ≤ 1 → j ≢ k →
      found key xs k ≡ Some x → found key xs j ≡ Some y →
      f x + f y ≤ sum_by f xs
  two_found f xs k j x y once other first second =
      let there : option_map_or f (found key xs k) 0 ≡ f x = ap (λ w. option_map_or f w 0) first in
      omega (
        arith,
        there,
        sum_by-without f xs k once,
        found-le-sum_by f (without key xs k) j y (found-without_other xs k j other ∙ second),
      )

  -- where the position of a key is
  pub position-found : (xs : List X) (k : ℕ) → position (λ x. eqb (key x) k) xs ≡ None → found key xs k ≡ None
  position-found xs k none =
      find_at (λ x. eqb (key x) k) xs ∙ slice_get_past xs (position_or_len (λ x. eqb (key x) k) xs)
      (grind (arith, nat_tests))

  pub position-some : (xs : List X) (k : ℕ) → is_some (position (λ x. eqb (key x) k) xs) ≡ is_some (found key xs k)
  position-some [] k = refl
  position-some (x ∷ xs) k =
      let ys = x ∷ xs in
      let test = λ (y : X). eqb (key y) k in
      let n = position_or_len test ys in
      let here : found key ys k ≡ slice_get ys n = find_at test ys in
      elim (cases_lt n (length ys)) [
        | inl low ↦ grind (arith, nat_tests, here, slice_get-get_or ys n x low)
        | inr past ↦ grind (arith, nat_tests, here, slice_get_past ys n past)
      ]

  pub position-key : (xs : List X) (k i : ℕ) (d : X) → position (λ x. eqb (key x) k) xs ≡ Some i →
      (i < length xs) × (key (get_or xs i d) ≡ k)
  position-key xs k i d is = let at = position-Some (λ x. eqb (key x) k) xs i d is in
      (at.0, eqb-true (key (get_or xs i d)) k at.1)

  -- the list after the element at a position came to its front
  pub fronted_at : (xs : List X) (k i : ℕ) (d : X) → count_of key xs k ≤ 1 → position (λ x. eqb (key x) k) xs ≡ Some i →
      fronted key xs k ≡ get_or xs i d ∷ remove xs i
  fronted_at xs k i d once is =
      let at = position-key xs k i d is in
      rw (found_at xs k i d once at.0 at.1, remove-without xs k i d once at.0 at.1) refl

  -- what was read at a position
  pub found_read : (xs : List X) (k i : ℕ) (x : X) → position (λ x. eqb (key x) k) xs ≡ Some i → x ≡ get_or xs i x →
      found key xs k ≡ Some x
  found_read xs k i x is read =
      let at = position-key xs k i x is in
      let place : position_or_len (λ x. eqb (key x) k) xs ≡ i = grind (arith, nat_tests) in
      find_at (λ x. eqb (key x) k) xs ∙ ap (slice_get xs) place ∙ slice_get_read xs (length xs) i x refl at.0 read

  -- what brings an element to the front, of whatever stands behind the list's end
  pub fronted_from : (xs ys new : List X) (k i : ℕ) → count_of key xs k ≤ 1 →
      position (λ x. eqb (key x) k) xs ≡ Some i → ys ≡ xs → ((d : X) → new ≡ get_or ys i d ∷ remove ys i) →
      new ≡ fronted key xs k
  fronted_from [] ys new k i once is same front = absurd cc
  fronted_from (x ∷ xs) ys new k i once is same front =
      front x ∙ ap (λ zs. get_or zs i x ∷ remove zs i) same ∙ sym (fronted_at (x ∷ xs) k i x once is)

  -- the list after what was read at a position was changed there
  pub changed_read : (change : X → X) (xs : List X) (k i : ℕ) (x : X) → count_of key xs k ≤ 1 →
      position (λ x. eqb (key x) k) xs ≡ Some i → x ≡ get_or xs i x → set xs i (change x) ≡ changed key change xs k
  changed_read change xs k i x once is read =
      let at = position-key xs k i x is in
      ap (λ y. set xs i (change y)) read ∙ set-changed change xs k i x once at.0 at.1

  pub fronted-absent : (xs : List X) (k : ℕ) → found key xs k ≡ None → fronted key xs k ≡ xs
  fronted-absent xs k none = rw none refl

  pub found-fronted : (xs : List X) (k j : ℕ) → found key (fronted key xs k) j ≡ found key xs j
  found-fronted xs k j = found-to_front (found key xs k) refl
    where
      found-to_front : (way : Option X) → found key xs k ≡ way →
          found key (option_map_or (λ x. x ∷ without key xs k) way xs) j ≡ found key xs j
      found-to_front None is = refl
      found-to_front (Some x) is = grind (arith, nat_tests, found-key xs k x is, found-without_other xs k j)

  pub sum_by-fronted : (f : X → ℕ) (xs : List X) (k : ℕ) → count_of key xs k ≤ 1 →
      sum_by f (fronted key xs k) ≡ sum_by f xs
  sum_by-fronted f xs k once = sum_by-to_front (found key xs k) refl
    where
      sum_by-to_front : (way : Option X) → found key xs k ≡ way →
          sum_by f (option_map_or (λ x. x ∷ without key xs k) way xs) ≡ sum_by f xs
      sum_by-to_front None is = refl
      sum_by-to_front (Some x) is =
          let rest = sum_by-without f xs k once in
          let there : option_map_or f (found key xs k) 0 ≡ f x = ap (λ w. option_map_or f w 0) is in
          omega (arith, rest, there, sum_by-cons f x (without key xs k))

-- what a mapped value comes from
pub mapped : {X Y : Type 0} (change : X → Y) (before : Option X) (after : Y) → option_map change before ≡ Some after →
    (old : X) × (before ≡ Some old) × (change old ≡ after)
mapped change None after is = absurd cc
mapped change (Some old) after is = (old, refl, cc)

-- the length is the sum of ones
pub length-sum_by : {X : Type 0} → (xs : List X) → length xs ≡ sum_by (λ x. 1) xs
length-sum_by [] = refl
length-sum_by (x ∷ xs) = grind (arith, sum_by-cons (λ y. 1) x xs, length-sum_by xs)

-- the same after each element was shown as another that has its key
module _ {X Y : Type 0} (key : X → ℕ) (shown_key : Y → ℕ) (show : X → Y)
    (same : (x : X) → shown_key (show x) ≡ key x) where
  pub found-map : (xs : List X) (k : ℕ) → found shown_key (map show xs) k ≡ option_map show (found key xs k)
  found-map [] k = refl
  found-map (x ∷ xs) k = grind (arith, nat_tests, same x, found-map xs k)

  pub without-map : (xs : List X) (k : ℕ) → without shown_key (map show xs) k ≡ map show (without key xs k)
  without-map [] k = refl
  without-map (x ∷ xs) k = grind (arith, nat_tests, same x, without-map xs k)

  pub changed-map : (change : X → X) (shown_change : Y → Y) (xs : List X) (k : ℕ) →
      ((x : X) → show (change x) ≡ shown_change (show x)) →
      changed shown_key shown_change (map show xs) k ≡ map show (changed key change xs k)
  changed-map change shown_change [] k commutes = refl
  changed-map change shown_change (x ∷ xs) k commutes =
      grind (arith, nat_tests, same x, commutes x, changed-map change shown_change xs k commutes)
