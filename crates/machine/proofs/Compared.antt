-- outcomes that come, place by place, beside the recorded ones
use Rattle.std.proofs.Common.{◌≡◌, ◌≢◌, ◌∙◌, ◌↔◌, ℕ, zero, suc, ◌+◌, ◌<◌, List, [], ◌∷◌, length, take, get_or}
use Rattle.std.proofs.Common.{Option, None, Some, refl, ap, sym, subst, arith, inl, inr}
use Rattle.std.proofs.lemmas.Bool.{cases_order}
use Rattle.std.proofs.lemmas.List.{same_lists}
use Rattle.std.proofs.lemmas.Option.{same_Some, slice_get-get_or, slice_get_read}
use Rattle.std.proofs.Math.Seq.{take-length}
use Rattle.std.specs.Prelude.{slice_get}
use Rattle.machine.specs.FirstDifference.{IsFirstDifference}
use Rattle.el_base.specs.declared.events.Event.{Event}
use Rattle.el_base.specs.declared.outcomes.Outcome.{Outcome}
use Rattle.el_model.specs.Next.{next, outcomes_from, state_after}
use Rattle.el_model.specs.State.{ModelState}
use Rattle.el_model.proofs.Laws.Folds.{length-outcomes_from}
use Rattle.machine.proofs.Laws.Continued.{nothing_more, one_followed, state_of_continued}
use Rattle.machine.specs.Story.{Story, continued, state_of}

-- what comes of the event at a place
found_at : (state : ModelState) (events : List Event) (place : ℕ) (event : Event) → place < length events →
    event ≡ get_or events place event →
    slice_get (outcomes_from state events) place ≡ Some (next (state_after state (take place events)) event).outcome
found_at state [] place event within is = absurd (omega arith)
found_at state (first ∷ events) zero event within is = ap (λ e. Some (next state e).outcome) (sym is)
found_at state (first ∷ events) (suc place) event within is =
    found_at (next state first).state events place event (omega arith) is

-- two lists are the same before a place, or their first difference is before it
abbrev Compared : List Outcome → List Outcome → ℕ → Option ℕ → Type 0
Compared recorded found count None = (place : ℕ) → place < count → slice_get recorded place ≡ slice_get found place
Compared recorded found count (Some first) = (first < count) × IsFirstDifference recorded found first

-- one place more, with its two outcomes
record OneMore (place : ℕ) (before after : Option ℕ) (wanted outcome : Outcome) : Type 0 where
  agrees : (after ≡ None) ↔ ((before ≡ None) × (wanted ≡ outcome))
  earlier : (first : ℕ) → before ≡ Some first → after ≡ Some first
  here : before ≡ None → wanted ≢ outcome → after ≡ Some place

compared_more : (recorded found : List Outcome) (place : ℕ) (wanted outcome : Outcome) (before after : Option ℕ) →
    slice_get recorded place ≡ Some wanted → slice_get found place ≡ Some outcome →
    OneMore place before after wanted outcome → Compared recorded found place before →
    Compared recorded found (place + 1) after
compared_more recorded found place wanted outcome None None was is more so_far = λ i within.
    elim (cases_order i place) [
      | inl same ↦ rw same (was ∙ ap Some (more.agrees.0 refl).1 ∙ sym is)
      | inr (inl earlier) ↦ so_far i earlier
      | inr (inr past) ↦ absurd (omega (arith, within, past))
    ]
compared_more recorded found place wanted outcome None (Some first) was is more so_far =
    let apart : wanted ≢ outcome = λ same. let none = more.agrees.1 (refl, same) in absurd (cc) in
    let first_is : first ≡ place = same_Some _ _ (more.here refl apart) in
    rw first_is
    (omega arith, record { here = λ same. apart (same_Some _ _ (sym was ∙ same ∙ is)); before = so_far })
compared_more recorded found place wanted outcome (Some earlier) None was is more so_far =
    let kept = more.earlier earlier refl in absurd (cc)
compared_more recorded found place wanted outcome (Some earlier) (Some first) was is more (within, difference) =
    let first_is : first ≡ earlier = same_Some _ _ (more.earlier earlier refl) in
    rw first_is (omega (arith, within), difference)

-- so many events were made, and compared
pub record Compares (before now : Story) (events : List Event) (recorded : List Outcome) (count : ℕ)
    (first : Option ℕ) : Type 0 where
  pub story : now ≡ continued before (take count events)
  so_far : Compared recorded (outcomes_from (state_of before) events) count first

pub none_compared : (story : Story) (events : List Event) (recorded : List Outcome) →
    Compares story story events recorded 0 None
none_compared story events recorded =
    record { story = sym (nothing_more story); so_far = λ place within. absurd (omega (arith, within)) }

pub one_compared : (before now later : Story) (events : List Event) (recorded : List Outcome) (place : ℕ)
    (first after : Option ℕ) (event : Event) (wanted outcome : Outcome) →
    Compares before now events recorded place first → length recorded ≡ length events → place < length events →
    event ≡ get_or events place event → wanted ≡ get_or recorded place wanted → later ≡ continued now (event ∷ []) →
    outcome ≡ (next (state_of now) event).outcome → (after ≡ None) ↔ ((first ≡ None) × (wanted ≡ outcome)) →
    ((earlier : ℕ) → first ≡ Some earlier → after ≡ Some earlier) →
    (first ≡ None → wanted ≢ outcome → after ≡ Some place) → Compares before later events recorded (place + 1) after
one_compared before now later events recorded place first after event wanted outcome compares each within here was more
    comes agrees earlier differs = record {
      story = one_followed before now later events place event compares.story within here more;
      so_far =
          compared_more recorded (outcomes_from (state_of before) events) place wanted outcome first after
          (slice_get_read recorded (length events) place wanted (sym each) within was)
          (found_at (state_of before) events place event within here
          ∙ ap (λ state. Some (next state event).outcome)
          (sym (ap state_of compares.story ∙ state_of_continued before (take place events)))
          ∙ ap Some (sym comes))
          (record { agrees = agrees; earlier = earlier; here = differs }) compares.so_far;
    }

-- all places
same_place : (recorded found : List Outcome) (one other : ℕ) → IsFirstDifference recorded found one →
    IsFirstDifference recorded found other → one ≡ other
same_place recorded found one other first second =
    elim (cases_order one other) [
      | inl same ↦ same
      | inr (inl earlier) ↦ absurd (first.here (second.before one earlier))
      | inr (inr later) ↦ absurd (second.here (first.before other later))
    ]

all_same : (recorded found : List Outcome) → length recorded ≡ length found →
    Compared recorded found (length found) None → recorded ≡ found
all_same recorded found each compared =
    same_lists recorded found each
    (λ place d within.
    let inside : place < length found = omega (arith, within, each) in
    same_Some _ _
    (sym (slice_get-get_or recorded place d (omega (arith, inside, each))) ∙ compared place inside
    ∙ slice_get-get_or found place d inside))

agreement : (recorded found : List Outcome) (first : Option ℕ) → length recorded ≡ length found →
    Compared recorded found (length found) first → (first ≡ None) ↔ (recorded ≡ found)
agreement recorded found None each compared = (λ none. all_same recorded found each compared, λ same. refl)
agreement recorded found (Some place) each (within, difference) =
    (λ none. absurd (cc), λ same. absurd (difference.here (ap (λ list. slice_get list place) same)))

difference : (recorded found : List Outcome) (first : Option ℕ) → length recorded ≡ length found →
    Compared recorded found (length found) first → (place : ℕ) →
    (first ≡ Some place) ↔ IsFirstDifference recorded found place
difference recorded found None each compared place = (
  λ some. absurd (cc),
  λ first. absurd (first.here (ap (λ list. slice_get list place) (all_same recorded found each compared))),
)
difference recorded found (Some one) each (within, first) place = (
  λ is. subst (IsFirstDifference recorded found) (same_Some _ _ is) first,
  λ other. ap Some (same_place recorded found one place first other),
)

-- the events are through
module _ (before now : Story) (events : List Event) (recorded : List Outcome) (count : ℕ) (first : Option ℕ)
    (compares : Compares before now events recorded count first) (all : count ≡ length events)
    (each : length recorded ≡ length events)
  where
    as_many : length recorded ≡ length (outcomes_from (state_of before) events)
    as_many = each ∙ sym (length-outcomes_from (state_of before) events)

    through : Compared recorded (outcomes_from (state_of before) events)
        (length (outcomes_from (state_of before) events)) first
    through =
        subst (λ n. Compared recorded (outcomes_from (state_of before) events) n first)
        (all ∙ sym (length-outcomes_from (state_of before) events)) compares.so_far

    pub followed : now ≡ continued before events
    followed =
        compares.story ∙ ap (λ n. continued before (take n events)) all ∙ ap (continued before) (take-length events)

    pub all_agree : (first ≡ None) ↔ (recorded ≡ outcomes_from (state_of before) events)
    all_agree = agreement recorded (outcomes_from (state_of before) events) first as_many through

    pub first_differs : (place : ℕ) →
        (first ≡ Some place) ↔ IsFirstDifference recorded (outcomes_from (state_of before) events) place
    first_differs = difference recorded (outcomes_from (state_of before) events) first as_many through
