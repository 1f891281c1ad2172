-- a line's head after a request was placed: the one before, or the one that is faced
use Rattle.std.proofs.Common.{◌≡◌, ◌≢◌, ◌∙◌, ◌⊎◌, ℕ, true, Option, None, Some, is_some, refl, ap, sym, subst, inl, inr}
use Rattle.std.specs.Option.{option_or}
use Rattle.std.proofs.lemmas.Bool.{cases_eq}
use Rattle.bus_order.specs.Order.{Request, first_of}
use Rattle.bus_order.proofs.Laws.LookUps.{first_of_appended_other, first_of_appended_own, first_of_in_front_of_other}
use Rattle.bus_order.proofs.Laws.LookUps.{first_of_in_front_of_own}
use Rattle.el_base.proofs.Laws.Options.{none_from}
use Rattle.el_model.specs.BusEvent.{Places, faced_head, order_at}
use Rattle.el_model.specs.Order.{Alone, Behind, InFront, Place, place_for}
use Rattle.el_model.specs.State.{ModelState, head_of}
use Rattle.el_model.proofs.Laws.Tests.{by_test}

abbrev IsInPlace : ModelState → Request → Place → Type 0
IsInPlace state request InFront = Unit {0}
IsInPlace state request Behind = is_some (head_of state request.line) ≡ true
IsInPlace state request Alone = head_of state request.line ≡ None

in_place : (state : ModelState) (request : Request) → IsInPlace state request (place_for state request)
in_place state request =
    by_test (IsInPlace state request) _ InFront _ (λ own. tt)
    (λ other.
    by_test (IsInPlace state request) (is_some (head_of state request.line)) Behind Alone (λ there. there)
    (λ none. none_from (head_of state request.line) none))

other_first : (state : ModelState) (request : Request) (place : Place) (line : ℕ) → request.line ≢ line →
    first_of (order_at state request place) line ≡ head_of state line
other_first state request InFront line other = first_of_in_front_of_other state.order request line other
other_first state request Behind line other = first_of_appended_other state.order request line other
other_first state request Alone line other = first_of_appended_other state.order request line other

abbrev pub StaysOrIsFaced : ModelState → Request → Place → ℕ → Type 0
StaysOrIsFaced state request place line =
    (first_of (order_at state request place) line ≡ head_of state line)
    ⊎ (first_of (order_at state request place) line ≡ faced_head state (Places request place))

first_stays : {A : Type 0} (one other : Option A) → is_some one ≡ true → option_or one other ≡ one
first_stays None other some = absurd (cc)
first_stays (Some x) other some = refl

own_first : (state : ModelState) (request : Request) (place : Place) → IsInPlace state request place →
    StaysOrIsFaced state request place request.line
own_first state request InFront is = inr (first_of_in_front_of_own state.order request)
own_first state request Behind there =
    inl (first_of_appended_own state.order request ∙ first_stays (head_of state request.line) (Some request) there)
own_first state request Alone none =
    inr (first_of_appended_own state.order request ∙ ap (λ head. option_or head (Some request)) none)

pub placed_first : (state : ModelState) (request : Request) (place : Place) (line : ℕ) →
    place ≡ place_for state request → StaysOrIsFaced state request place line
placed_first state request place line is = by_line (cases_eq request.line line)
  where
    by_line : (request.line ≡ line) ⊎ (request.line ≡ line → ⊥) → StaysOrIsFaced state request place line
    by_line (inl same) =
        subst (StaysOrIsFaced state request place) same
        (own_first state request place (subst (IsInPlace state request) (sym is) (in_place state request)))
    by_line (inr other) = inl (other_first state request place line other)
