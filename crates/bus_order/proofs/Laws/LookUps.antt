-- What a look-up finds in the order after each call: of the same hart or line, and of another one.
use Rattle.std.proofs.Common.{◌≡◌, ◌≢◌, ℕ, ◌==◌, not, Bool, true, false, cond, List, [], ◌∷◌, Option, Some, None, refl}
use Rattle.std.proofs.Common.{ap, sym, ◌∙◌, arith}
use Rattle.std.specs.List.{find}
use Rattle.std.specs.Option.{option_or}
use Rattle.std.proofs.lemmas.Bool.Decides.{nat_tests}
use Rattle.std.proofs.lemmas.List.Folds.{find-append}
use Rattle.el_base.proofs.Laws.ListLaws.{find_of_filter_kept, find_of_filter_gone}
use Rattle.el_base.proofs.Laws.Tests.{other_test, own_test}
use Rattle.bus_order.specs.Order.{Request, first_of, tail_of, request_of, appended, in_front_of, removed}
use Rattle.bus_order.proofs.Words.{first_of_find, request_of_find, removed_filter}

-- where nothing is found behind, what is found in front is all
pub or_nothing : {A : Type 0} (found : Option A) → option_or found None ≡ found
or_nothing None = refl
or_nothing (Some x) = refl

or_something : {A : Type 0} (found : Option A) (x : A) → found ≡ None → option_or found (Some x) ≡ Some x
or_something None x none = refl
or_something (Some y) x none = absurd cc

-- any look-up from the front
module _ (p : Request → Bool) where
  found_appended_own : (order : List Request) (new : Request) → p new ≡ true
      → find p (appended order new) ≡ option_or (find p order) (Some new)
  found_appended_own order new own =
      find-append p order (new ∷ []) ∙ ap (λ test. option_or (find p order) (cond test (Some new) None)) own

  found_appended_other : (order : List Request) (new : Request) → p new ≡ false →
      find p (appended order new) ≡ find p order
  found_appended_other order new other =
      find-append p order (new ∷ []) ∙ ap (λ test. option_or (find p order) (cond test (Some new) None)) other
      ∙ or_nothing (find p order)

  found_in_front_other : (order : List Request) (new : Request) → p new ≡ false →
      find p (in_front_of order new) ≡ find p order
  found_in_front_other [] new other = ap (λ test. cond test (Some new) None) other
  found_in_front_other (request ∷ order) new other =
      step (request.line == new.line) (found_in_front_other order new other)
    where
      step : (on_line : Bool) → find p (in_front_of order new) ≡ find p order
          → find p (cond on_line (new ∷ request ∷ order) (request ∷ in_front_of order new)) ≡ find p (request ∷ order)
      step true rest = ap (λ test. cond test (Some new) (find p (request ∷ order))) other
      step false rest = ap (cond (p request) (Some request)) rest

-- a hart's request
pub request_of_appended_own : (order : List Request) (new : Request) → request_of order new.hart ≡ None
    → request_of (appended order new) new.hart ≡ Some new
request_of_appended_own order new none =
    request_of_find (appended order new) new.hart
    ∙ found_appended_own (λ request. request.hart == new.hart) order new (own_test new.hart)
    ∙ or_something _ new (sym (request_of_find order new.hart) ∙ none)

pub request_of_appended_other : (order : List Request) (new : Request) (hart : ℕ) → new.hart ≢ hart
    → request_of (appended order new) hart ≡ request_of order hart
request_of_appended_other order new hart other =
    request_of_find (appended order new) hart
    ∙ found_appended_other (λ request. request.hart == hart) order new (other_test new.hart hart other)
    ∙ sym (request_of_find order hart)

pub request_of_in_front_of_own : (order : List Request) (new : Request) → request_of order new.hart ≡ None
    → request_of (in_front_of order new) new.hart ≡ Some new
request_of_in_front_of_own [] new none = ap (λ test. cond test (Some new) None) (own_test new.hart)
request_of_in_front_of_own (request ∷ order) new none =
    step (request.line == new.line) (request.hart == new.hart) refl none (request_of_in_front_of_own order new)
  where
    step : (on_line own : Bool) → (request.hart == new.hart) ≡ own →
        cond own (Some request) (request_of order new.hart) ≡ None
        → (request_of order new.hart ≡ None → request_of (in_front_of order new) new.hart ≡ Some new)
        → request_of (cond on_line (new ∷ request ∷ order) (request ∷ in_front_of order new)) new.hart ≡ Some new
    step true own is_own none rest =
        ap (λ test. cond test (Some new) (request_of (request ∷ order) new.hart)) (own_test new.hart)
    step false true is_own none rest = absurd cc
    step false false is_own none rest =
        ap (λ test. cond test (Some request) (request_of (in_front_of order new) new.hart)) is_own ∙ rest none

pub request_of_in_front_of_other : (order : List Request) (new : Request) (hart : ℕ) → new.hart ≢ hart
    → request_of (in_front_of order new) hart ≡ request_of order hart
request_of_in_front_of_other order new hart other =
    request_of_find (in_front_of order new) hart
    ∙ found_in_front_other (λ request. request.hart == hart) order new (other_test new.hart hart other)
    ∙ sym (request_of_find order hart)

pub request_of_removed_own : (order : List Request) (hart : ℕ) → request_of (removed order hart) hart ≡ None
request_of_removed_own order hart =
    request_of_find (removed order hart) hart
    ∙ ap (find (λ request. request.hart == hart)) (removed_filter order hart)
    ∙ find_of_filter_gone (λ request. request.hart == hart) (λ request. not (request.hart == hart))
    (λ request own. ap not own) order

pub request_of_removed_other : (order : List Request) (gone hart : ℕ) → gone ≢ hart
    → request_of (removed order gone) hart ≡ request_of order hart
request_of_removed_other order gone hart other =
    request_of_find (removed order gone) hart
    ∙ ap (find (λ request. request.hart == hart)) (removed_filter order gone)
    ∙ find_of_filter_kept (λ request. request.hart == hart) (λ request. not (request.hart == gone))
    (λ request own. kept request.hart own)
    order
    ∙ sym (request_of_find order hart)
  where
    kept : (h : ℕ) → (h == hart) ≡ true → not (h == gone) ≡ true
    kept h own = grind (arith, nat_tests)

-- the first request of a line
pub first_of_appended_own : (order : List Request) (new : Request)
    → first_of (appended order new) new.line ≡ option_or (first_of order new.line) (Some new)
first_of_appended_own order new =
    first_of_find (appended order new) new.line
    ∙ found_appended_own (λ request. request.line == new.line) order new (own_test new.line)
    ∙ ap (λ found. option_or found (Some new)) (sym (first_of_find order new.line))

pub first_of_appended_other : (order : List Request) (new : Request) (line : ℕ) → new.line ≢ line
    → first_of (appended order new) line ≡ first_of order line
first_of_appended_other order new line other =
    first_of_find (appended order new) line
    ∙ found_appended_other (λ request. request.line == line) order new (other_test new.line line other)
    ∙ sym (first_of_find order line)

pub first_of_in_front_of_own : (order : List Request) (new : Request) →
    first_of (in_front_of order new) new.line ≡ Some new
first_of_in_front_of_own [] new = ap (λ test. cond test (Some new) None) (own_test new.line)
first_of_in_front_of_own (request ∷ order) new =
    step (request.line == new.line) refl (first_of_in_front_of_own order new)
  where
    step : (on_line : Bool) → (request.line == new.line) ≡ on_line →
        first_of (in_front_of order new) new.line ≡ Some new
        → first_of (cond on_line (new ∷ request ∷ order) (request ∷ in_front_of order new)) new.line ≡ Some new
    step true is rest = ap (λ test. cond test (Some new) (first_of (request ∷ order) new.line)) (own_test new.line)
    step false is rest = ap (λ test. cond test (Some request) (first_of (in_front_of order new) new.line)) is ∙ rest

pub first_of_in_front_of_other : (order : List Request) (new : Request) (line : ℕ) → new.line ≢ line
    → first_of (in_front_of order new) line ≡ first_of order line
first_of_in_front_of_other order new line other =
    first_of_find (in_front_of order new) line
    ∙ found_in_front_other (λ request. request.line == line) order new (other_test new.line line other)
    ∙ sym (first_of_find order line)

-- the last request of a line
pub tail_of_appended_own : (order : List Request) (new : Request) → tail_of (appended order new) new.line ≡ Some new
tail_of_appended_own [] new = ap (λ test. cond test (Some new) None) (own_test new.line)
tail_of_appended_own (request ∷ order) new =
    ap (λ last. option_or last (cond (request.line == new.line) (Some request) None)) (tail_of_appended_own order new)

pub tail_of_appended_other : (order : List Request) (new : Request) (line : ℕ) → new.line ≢ line
    → tail_of (appended order new) line ≡ tail_of order line
tail_of_appended_other [] new line other = ap (λ test. cond test (Some new) None) (other_test new.line line other)
tail_of_appended_other (request ∷ order) new line other =
    ap (λ last. option_or last (cond (request.line == line) (Some request) None))
    (tail_of_appended_other order new line other)

pub tail_of_in_front_of_own : (order : List Request) (new : Request)
    → tail_of (in_front_of order new) new.line ≡ option_or (tail_of order new.line) (Some new)
tail_of_in_front_of_own [] new = ap (λ test. cond test (Some new) None) (own_test new.line)
tail_of_in_front_of_own (request ∷ order) new = step (request.line == new.line) refl (tail_of_in_front_of_own order new)
  where
    front : (test : Bool) → test ≡ true → option_or (tail_of (request ∷ order) new.line) (cond test (Some new) None)
        ≡ option_or (tail_of (request ∷ order) new.line) (Some new)
    front test is = ap (λ b. option_or (tail_of (request ∷ order) new.line) (cond b (Some new) None)) is

    step : (on_line : Bool) → (request.line == new.line) ≡ on_line
        → tail_of (in_front_of order new) new.line ≡ option_or (tail_of order new.line) (Some new)
        → tail_of (cond on_line (new ∷ request ∷ order) (request ∷ in_front_of order new)) new.line
        ≡ option_or (tail_of (request ∷ order) new.line) (Some new)
    step true is rest = front (new.line == new.line) (own_test new.line)
    step false is rest =
        (λ i. option_or (rest i) (cond (is i) (Some request) None))
        ∙ or_nothing (option_or (tail_of order new.line) (Some new))
        ∙ ap (λ found. option_or found (Some new))
        (sym (ap (λ test. option_or (tail_of order new.line) (cond test (Some request) None)) is
        ∙ or_nothing (tail_of order new.line)))

pub tail_of_in_front_of_other : (order : List Request) (new : Request) (line : ℕ) → new.line ≢ line
    → tail_of (in_front_of order new) line ≡ tail_of order line
tail_of_in_front_of_other [] new line other = ap (λ test. cond test (Some new) None) (other_test new.line line other)
tail_of_in_front_of_other (request ∷ order) new line other =
    step (request.line == new.line) (tail_of_in_front_of_other order new line other)
  where
    step : (on_line : Bool) → tail_of (in_front_of order new) line ≡ tail_of order line
        → tail_of (cond on_line (new ∷ request ∷ order) (request ∷ in_front_of order new)) line
        ≡ tail_of (request ∷ order) line
    step true rest =
        ap (λ test. option_or (tail_of (request ∷ order) line) (cond test (Some new) None))
        (other_test new.line line other)
        ∙ or_nothing (tail_of (request ∷ order) line)
    step false rest = ap (λ last. option_or last (cond (request.line == line) (Some request) None)) rest
