-- Look-ups, filters, places and counts of lists: what std's lemmas leave out.
use Rattle.std.proofs.Common.{◌≡◌, ℕ, zero, suc, ◌+◌, ◌<◌, ◌≤◌, ◌==◌, nat_lt, Bool, true, false, not, cond, List, []}
use Rattle.std.proofs.Common.{◌∷◌, ◌++◌, length, map, reverse}
use Rattle.std.proofs.Common.{take, drop, None, Some, refl, ap, sym, ◌∙◌, le_refl, arith}
use Rattle.std.proofs.Common.{◌⊎◌, inl, inr, get_or}
use Rattle.std.specs.List.{find, filter, list_any, count_by, prefix_len, position, position_or_len, slice_get, insert}
use Rattle.std.specs.List.{remove}
use Rattle.std.specs.List.{range_with_len}
use Rattle.std.specs.Option.{option_map, unwrap_or}
use Rattle.std.proofs.lemmas.List.{reverse-append}
use Rattle.std.proofs.lemmas.List.Sums.{sum_by-cons, prefix_len-le-length}
use Rattle.std.proofs.lemmas.List.Folds.{find_at}
use Rattle.std.proofs.lemmas.Bool.Decides.{nat_tests}
use Rattle.std.proofs.Math.Seq.{drop-cons}

-- a function over a choice
pub choice_of_images : {A B : Type 0} (h : A → B) (b : Bool) (x y : A) → cond b (h x) (h y) ≡ h (cond b x y)
choice_of_images h true x y = refl
choice_of_images h false x y = refl

-- one number more at the end
pub range_more : (from n end : ℕ) → end ≡ from + n → range_with_len from (suc n) ≡ range_with_len from n ++ end ∷ []
range_more from zero end is = ap (λ (m : ℕ). m ∷ []) (omega (arith, is))
range_more from (suc n) end is = ap (λ (l : List ℕ). from ∷ l) (range_more (from + 1) n end (omega (arith, is)))

-- there is nothing past the end
pub nothing_past : {X : Type 0} (xs : List X) (i : ℕ) → length xs ≤ i → slice_get xs i ≡ None
nothing_past [] i past = refl
nothing_past (x ∷ xs) zero past = absurd (omega arith)
nothing_past (x ∷ xs) (suc i) past = nothing_past xs i (omega arith)

-- a look-up, a place, a test, a filter, a count and an edit in a list of images
module _ {X Y : Type 0} (f : X → Y) where
  pub find_of_map : (p : Y → Bool) (xs : List X) → find p (map f xs) ≡ option_map f (find (λ x. p (f x)) xs)
  find_of_map p [] = refl
  find_of_map p (x ∷ xs) =
      ap (cond (p (f x)) (Some (f x))) (find_of_map p xs) ∙ choice_of_images (option_map f) (p (f x)) (Some x) _

  pub prefix_of_map : (p : Y → Bool) (xs : List X) → prefix_len p (map f xs) ≡ prefix_len (λ x. p (f x)) xs
  prefix_of_map p [] = refl
  prefix_of_map p (x ∷ xs) = ap (λ n. cond (p (f x)) (1 + n) 0) (prefix_of_map p xs)

  pub any_of_map : (p : Y → Bool) (xs : List X) → list_any p (map f xs) ≡ list_any (λ x. p (f x)) xs
  any_of_map p [] = refl
  any_of_map p (x ∷ xs) = cc (any_of_map p xs)

  pub filter_of_map : (p : Y → Bool) (xs : List X) → filter p (map f xs) ≡ map f (filter (λ x. p (f x)) xs)
  filter_of_map p [] = refl
  filter_of_map p (x ∷ xs) =
      let rest = filter_of_map p xs in
      ap (λ l. cond (p (f x)) (f x ∷ l) l) rest ∙ choice_of_images (map f) (p (f x)) (x ∷ _) _

  pub count_of_map : (p : Y → Bool) (xs : List X) → count_by p (map f xs) ≡ count_by (λ x. p (f x)) xs
  count_of_map p [] = refl
  count_of_map p (x ∷ xs) =
      sum_by-cons _ (f x) (map f xs) ∙ ap (λ n. cond (p (f x)) 1 0 + n) (count_of_map p xs) ∙ sym (sum_by-cons _ x xs)

  pub take_of_map : (n : ℕ) (xs : List X) → take n (map f xs) ≡ map f (take n xs)
  take_of_map zero xs = refl
  take_of_map (suc n) [] = refl
  take_of_map (suc n) (x ∷ xs) = ap (λ l. f x ∷ l) (take_of_map n xs)

  pub drop_of_map : (n : ℕ) (xs : List X) → drop n (map f xs) ≡ map f (drop n xs)
  drop_of_map zero xs = refl
  drop_of_map (suc n) [] = refl
  drop_of_map (suc n) (x ∷ xs) = drop_of_map n xs

  pub append_of_map : (xs ys : List X) → map f xs ++ map f ys ≡ map f (xs ++ ys)
  append_of_map [] ys = refl
  append_of_map (x ∷ xs) ys = ap (λ l. f x ∷ l) (append_of_map xs ys)

  pub reverse_of_map : (xs : List X) → reverse (map f xs) ≡ map f (reverse xs)
  reverse_of_map [] = refl
  reverse_of_map (x ∷ xs) =
      reverse-append (f x ∷ []) (map f xs) ∙ ap (λ l. l ++ f x ∷ []) (reverse_of_map xs)
      ∙ append_of_map (reverse xs) (x ∷ [])
      ∙ sym (ap (map f) (reverse-append (x ∷ []) xs))

  pub insert_of_map : (xs : List X) (i : ℕ) (x : X) → insert (map f xs) i (f x) ≡ map f (insert xs i x)
  insert_of_map xs i x =
      (λ k. take_of_map i xs k ++ f x ∷ drop_of_map i xs k) ∙ append_of_map (take i xs) (x ∷ drop i xs)

  pub remove_of_map : (xs : List X) (i : ℕ) → remove (map f xs) i ≡ map f (remove xs i)
  remove_of_map xs i =
      (λ k. take_of_map i xs k ++ drop_of_map (suc i) xs k) ∙ append_of_map (take i xs) (drop (suc i) xs)

-- the first place, from what `position` answers
module _ {X : Type 0} (p : X → Bool) (xs : List X) where
  pub place_within : position_or_len p xs ≤ length xs
  place_within = prefix_len-le-length (λ x. not (p x)) xs

  some_place : (within : Bool) (place i : ℕ) → cond within (Some place) None ≡ Some i → (within ≡ true) × (place ≡ i)
  some_place true place i found = (refl, cc)
  some_place false place i found = absurd cc

  no_place : (within : Bool) (place : ℕ) → cond within (Some place) None ≡ None → within ≡ false
  no_place true place none = absurd cc
  no_place false place none = refl

  or_length : (within : Bool) (place : ℕ) → (within ≡ false → place ≡ length xs)
      → unwrap_or (cond within (Some place) None) (length xs) ≡ place
  or_length true place past = refl
  or_length false place past = sym (past refl)

  pub place_or_length : unwrap_or (position p xs) (length xs) ≡ position_or_len p xs
  place_or_length =
      or_length (nat_lt (position_or_len p xs) (length xs)) (position_or_len p xs)
      (λ past. grind (arith, nat_tests, place_within))

  pub place_by_position : (i : ℕ) → position p xs ≡ Some i → (position_or_len p xs ≡ i) × (i < length xs)
  place_by_position i found =
      let there = some_place (nat_lt (position_or_len p xs) (length xs)) (position_or_len p xs) i found in
      let is_within : nat_lt (position_or_len p xs) (length xs) ≡ true = there.0 in
      let same : position_or_len p xs ≡ i = there.1 in
      (same, grind (arith, nat_tests))

  pub length_by_no_position : position p xs ≡ None → position_or_len p xs ≡ length xs
  length_by_no_position none =
      let past : nat_lt (position_or_len p xs) (length xs) ≡ false = no_place _ (position_or_len p xs) none in
      grind (arith, nat_tests, place_within)

  pub find_by_no_position : position p xs ≡ None → find p xs ≡ None
  find_by_no_position none =
      find_at p xs ∙ ap (slice_get xs) (length_by_no_position none) ∙ nothing_past xs (length xs) (le_refl (length xs))

-- what a look-up finds in a list of which some elements were taken out
module _ {X : Type 0} (p q : X → Bool) where
  -- none of those that it looks for
  pub find_of_filter_kept : ((x : X) → p x ≡ true → q x ≡ true) → (xs : List X) → find p (filter q xs) ≡ find p xs
  find_of_filter_kept keeps [] = refl
  find_of_filter_kept keeps (x ∷ xs) = step (q x) (p x) refl refl (find_of_filter_kept keeps xs)
    where
      step : (kept looked : Bool) → q x ≡ kept → p x ≡ looked → find p (filter q xs) ≡ find p xs
          → find p (cond kept (x ∷ filter q xs) (filter q xs)) ≡ cond looked (Some x) (find p xs)
      step true looked is_kept is_looked rest = (λ i. cond (is_looked i) (Some x) (rest i))
      step false true is_kept is_looked rest = cc (keeps x is_looked)
      step false false is_kept is_looked rest = rest

  -- all of those that it looks for
  pub find_of_filter_gone : ((x : X) → p x ≡ true → q x ≡ false) → (xs : List X) → find p (filter q xs) ≡ None
  find_of_filter_gone drops [] = refl
  find_of_filter_gone drops (x ∷ xs) = step (q x) (p x) refl refl (find_of_filter_gone drops xs)
    where
      step : (kept looked : Bool) → q x ≡ kept → p x ≡ looked → find p (filter q xs) ≡ None
          → find p (cond kept (x ∷ filter q xs) (filter q xs)) ≡ None
      step true true is_kept is_looked rest = cc (drops x is_looked)
      step true false is_kept is_looked rest = (λ i. cond (is_looked i) (Some x) (rest i))
      step false looked is_kept is_looked rest = rest

-- what a look-up finds passes its test
pub find_passes : {X : Type 0} (p : X → Bool) (xs : List X) (found : X) → find p xs ≡ Some found → p found ≡ true
find_passes p [] found is = absurd cc
find_passes p (x ∷ xs) found is = step (p x) refl is (find_passes p xs found)
  where
    step : (passes : Bool) → p x ≡ passes → cond passes (Some x) (find p xs) ≡ Some found
        → (find p xs ≡ Some found → p found ≡ true) → p found ≡ true
    step true p_is is rest = let same : x ≡ found = cc in ap p (sym same) ∙ p_is
    step false p_is is rest = rest is

-- two filters in either order
pub filter_of_filter : {X : Type 0} (p q : X → Bool) (xs : List X) → filter p (filter q xs) ≡ filter q (filter p xs)
filter_of_filter p q [] = refl
filter_of_filter p q (x ∷ xs) = step (p x) (q x) refl refl (filter_of_filter p q xs)
  where
    step : (first second : Bool) → p x ≡ first → q x ≡ second → filter p (filter q xs) ≡ filter q (filter p xs)
        → filter p (cond second (x ∷ filter q xs) (filter q xs)) ≡ filter q (cond first (x ∷ filter p xs) (filter p xs))
    step true true p_is q_is rest =
        (λ i. cond (p_is i) (x ∷ rest i) (rest i))
        ∙ sym (λ i. cond (q_is i) (x ∷ filter q (filter p xs)) (filter q (filter p xs)))
    step true false p_is q_is rest =
        rest ∙ sym (λ i. cond (q_is i) (x ∷ filter q (filter p xs)) (filter q (filter p xs)))
    step false true p_is q_is rest = (λ i. cond (p_is i) (x ∷ rest i) (rest i))
    step false false p_is q_is rest = rest

-- a list whose elements have codes below n, each code at most once, has at most n elements
module _ {X : Type 0} (code : X → ℕ) where
  one_code_more : (a n s t u : ℕ) → s ≤ t + u
      → cond (nat_lt a (suc n)) 1 0 + s ≤ (cond (nat_lt a n) 1 0 + t) + (cond (a == n) 1 0 + u)
  one_code_more a n s t u rest = grind (arith, nat_tests)

  codes_upto : (n : ℕ) (xs : List X)
      → count_by (λ x. nat_lt (code x) (suc n)) xs ≤ count_by (λ x. nat_lt (code x) n)
      xs + count_by (λ x. code x == n) xs
  codes_upto n [] = omega arith
  codes_upto n (x ∷ xs) =
      rw (
        sum_by-cons _ x xs,
        sum_by-cons (λ y. cond (nat_lt (code y) n) 1 0) x xs,
        sum_by-cons (λ y. cond (code y == n) 1 0) x xs,
      )
      (one_code_more (code x) n _ _ _ (codes_upto n xs))

  none_below_zero : (xs : List X) → count_by (λ x. nat_lt (code x) 0) xs ≡ 0
  none_below_zero [] = refl
  none_below_zero (x ∷ xs) =
      let one = sum_by-cons (λ y. cond (nat_lt (code y) 0) 1 0) x xs in
      grind (arith, nat_tests, one, none_below_zero xs)

  codes_below : (n : ℕ) (xs : List X) → ((k : ℕ) → count_by (λ x. code x == k) xs ≤ 1)
      → count_by (λ x. nat_lt (code x) n) xs ≤ n
  codes_below zero xs once = omega (arith, none_below_zero xs)
  codes_below (suc n) xs once = omega (arith, codes_upto n xs, codes_below n xs once, once n)

  all_below : (n : ℕ) (xs : List X) → ((x : X) → code x < n) → count_by (λ x. nat_lt (code x) n) xs ≡ length xs
  all_below n [] small = refl
  all_below n (x ∷ xs) small =
      let one = sum_by-cons (λ y. cond (nat_lt (code y) n) 1 0) x xs in
      grind (arith, nat_tests, one, all_below n xs small, small x)

  pub length_by_codes : (n : ℕ) (xs : List X) → ((x : X) → code x < n) → ((k : ℕ) → count_by (λ x. code x == k) xs ≤ 1)
      → length xs ≤ n
  length_by_codes n xs small once = omega (arith, all_below n xs small, codes_below n xs once)

-- what stands in a list with one element more
pub slice_get_push : {X : Type 0} (xs : List X) (x : X) (i : ℕ) (y : X) → slice_get (xs ++ x ∷ []) i ≡ Some y →
    (slice_get xs i ≡ Some y) ⊎ ((i ≡ length xs) × (x ≡ y))
slice_get_push [] x zero y found = inr (refl, cc)
slice_get_push [] x (suc i) y found = cc
slice_get_push (first ∷ xs) x zero y found = inl found
slice_get_push (first ∷ xs) x (suc i) y found =
    elim (slice_get_push xs x i y found) [ inl here ↦ inl here | inr last ↦ inr (ap suc last.0, last.1) ]

-- the first elements, with the one behind them
pub take_next : {X : Type 0} (xs : List X) (place : ℕ) (x : X) → slice_get xs place ≡ Some x →
    take (suc place) xs ≡ take place xs ++ x ∷ []
take_next [] place x found = absurd cc
take_next (first ∷ xs) zero x found = let same : first ≡ x = cc in ap (λ y. y ∷ []) same
take_next (first ∷ xs) (suc place) x found = ap (λ list. first ∷ list) (take_next xs place x found)

-- four elements in front, and the rest
pub four_in_front : (bytes : List ℕ) → 4 ≤ length bytes →
    bytes ≡ get_or bytes 0 0 ∷ get_or bytes 1 0 ∷ get_or bytes 2 0 ∷ get_or bytes 3 0 ∷ drop 4 bytes
four_in_front bytes long =
    drop-cons bytes 0 0 (omega arith)
    ∙ ap (λ (t : List ℕ). get_or bytes 0 0 ∷ t) (drop-cons bytes 1 0 (omega arith))
    ∙ ap (λ (t : List ℕ). get_or bytes 0 0 ∷ get_or bytes 1 0 ∷ t) (drop-cons bytes 2 0 (omega arith))
    ∙ ap (λ (t : List ℕ). get_or bytes 0 0 ∷ get_or bytes 1 0 ∷ get_or bytes 2 0 ∷ t)
    (drop-cons bytes 3 0 (omega arith))
