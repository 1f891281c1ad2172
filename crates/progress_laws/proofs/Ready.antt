-- the ready event is progress, and there is none exactly where no event is
use Rattle.std.proofs.Common.{◌≡◌, ◌∙◌, ℕ, zero, suc, ◌+◌, ◌<◌, Bool, true, false, List, [], ◌∷◌, None, Some, length}
use Rattle.std.proofs.Common.{refl, ap, sym, arith, cond}
use Rattle.std.specs.List.{find, flat_map}
use Rattle.std.proofs.lemmas.Bool.Decides.{nat_tests}
use Rattle.std.proofs.lemmas.List.Folds.{find-append}
use Rattle.el_base.specs.Below.{below}
use Rattle.el_base.specs.HartId.{hart_id}
use Rattle.el_base.specs.declared.events.Event.{Event}
use Rattle.el_base.specs.declared.events.Kind.{Kind}
use Rattle.el_base.specs.declared.events.Kind.TheVariants.{Step, Order, Serve, Deliver}
use Rattle.el_base.proofs.Laws.ListLaws.{find_passes}
use Rattle.el_base.proofs.Laws.Options.{both_none, or_none}
use Rattle.el_model.specs.Next.{kind_turn, next}
use Rattle.el_model.specs.State.{Hart, ModelState, count_up}
use Rattle.progress_laws.specs.Laws.{NoneIsReadyWhereNoneGetsOn, ReadyEventGetsOn}
use Rattle.progress_laws.specs.Ready.{events_in, events_of, gets_on, is_progress}

pub ready_event_gets_on : ReadyEventGetsOn
ready_event_gets_on state event is = find_passes (gets_on state) (events_in state) event is

-- nothing is found exactly where nothing passes
abbrev NonePass : {A : Type 0} → (A → Bool) → List A → Type 0
NonePass test xs = find test xs ≡ None

none_in_front : {A : Type 0} (test : A → Bool) (x : A) (xs : List A) → NonePass test (x ∷ xs) → test x ≡ false
none_in_front test x xs none = by (test x) none
  where
    by : (passes : Bool) → cond passes (Some x) (find test xs) ≡ None → passes ≡ false
    by true none = absurd (cc)
    by false none = refl

none_behind : {A : Type 0} (test : A → Bool) (x : A) (xs : List A) → NonePass test (x ∷ xs) → NonePass test xs
none_behind test x xs none = by (test x) none
  where
    by : (passes : Bool) → cond passes (Some x) (find test xs) ≡ None → NonePass test xs
    by true none = absurd (cc)
    by false none = none

none_cons : {A : Type 0} (test : A → Bool) (x : A) (xs : List A) → test x ≡ false → NonePass test xs →
    NonePass test (x ∷ xs)
none_cons test x xs first others = ap (λ passes. cond passes (Some x) (find test xs)) first ∙ others

-- a hart's event of a kind
abbrev pub of_kind : ℕ → Kind → Event
of_kind h kind = record { kind = kind; hart = hart_id h }

-- the events of a hart behind those of a kind
abbrev after_serve : ℕ → List Event
after_serve h = of_kind h Deliver ∷ []

abbrev after_order : ℕ → List Event
after_order h = of_kind h Serve ∷ after_serve h

abbrev after_step : ℕ → List Event
after_step h = of_kind h Order ∷ after_order h

none_of_kind : (state : ModelState) (h : ℕ) (kind : Kind) → NonePass (gets_on state) (events_of h) →
    gets_on state (of_kind h kind) ≡ false
none_of_kind state h kind none = by kind
  where
    test : Event → Bool
    test event = gets_on state event

    stepped : NonePass test (after_step h)
    stepped = none_behind test (of_kind h Step) (after_step h) none

    ordered : NonePass test (after_order h)
    ordered = none_behind test (of_kind h Order) (after_order h) stepped

    served : NonePass test (after_serve h)
    served = none_behind test (of_kind h Serve) (after_serve h) ordered

    by : (kind : Kind) → test (of_kind h kind) ≡ false
    by Step = none_in_front test (of_kind h Step) (after_step h) none
    by Order = none_in_front test (of_kind h Order) (after_order h) stepped
    by Serve = none_in_front test (of_kind h Serve) (after_serve h) ordered
    by Deliver = none_in_front test (of_kind h Deliver) [] served

none_of_hart : (state : ModelState) (h : ℕ) → ((kind : Kind) → gets_on state (of_kind h kind) ≡ false) →
    NonePass (gets_on state) (events_of h)
none_of_hart state h none =
    none_cons (gets_on state) (of_kind h Step) (after_step h) (none Step)
    (none_cons (gets_on state) (of_kind h Order) (after_order h) (none Order)
    (none_cons (gets_on state) (of_kind h Serve) (after_serve h) (none Serve)
    (none_cons (gets_on state) (of_kind h Deliver) [] (none Deliver) refl)))

-- of all harts from a number on
none_at : (state : ModelState) (harts : List Hart) (from number k : ℕ) →
    NonePass (gets_on state) (flat_map events_of (count_up from harts)) → k < length harts → number ≡ from + k →
    NonePass (gets_on state) (events_of number)
none_at state [] from number k none below is = absurd (omega arith)
none_at state (hart ∷ harts) from number zero none below is =
    let same : number ≡ from = omega (arith, is) in
    let split = sym (find-append (gets_on state) (events_of from) (flat_map events_of (count_up (suc from) harts))) in
    rw same (or_none _ _ (split ∙ none)).0
none_at state (hart ∷ harts) from number (suc k) none below is =
    let split = sym (find-append (gets_on state) (events_of from) (flat_map events_of (count_up (suc from) harts))) in
    none_at state harts (suc from) number k (or_none _ _ (split ∙ none)).1 (omega (arith, below)) (omega (arith, is))

none_from : (state : ModelState) (harts : List Hart) (from : ℕ) →
    ((number k : ℕ) → k < length harts → number ≡ from + k → NonePass (gets_on state) (events_of number)) →
    NonePass (gets_on state) (flat_map events_of (count_up from harts))
none_from state [] from each = refl
none_from state (hart ∷ harts) from each =
    find-append (gets_on state) (events_of from) (flat_map events_of (count_up (suc from) harts))
    ∙ both_none _ _ (each from 0 (omega arith) (omega arith))
    (none_from state harts (suc from)
    (λ number k below is. each number (suc k) (omega (arith, below)) (omega (arith, is))))

-- an event is what comes of its kind and its hart's number
pub number_kept : (h : ℕ) → h < 8 → below 8 h ≡ h
number_kept h small = grind (arith, nat_tests)

pub gets_on_by_number : (state : ModelState) (event : Event) →
    gets_on state event ≡ is_progress (kind_turn state event.hart.number event.kind).outcome
unfolding next
gets_on_by_number state event = refl

same_event : (state : ModelState) (event : Event) (h : ℕ) → h < 8 → event.hart.number ≡ h →
    gets_on state (of_kind h event.kind) ≡ gets_on state event
unfolding next
same_event state event h small is =
    ap (λ number. is_progress (kind_turn state number event.kind).outcome) (number_kept h small ∙ sym is)

pub none_is_ready_where_none_gets_on : NoneIsReadyWhereNoneGetsOn
none_is_ready_where_none_gets_on state few = (
  (λ none event exists.
      let h = event.hart.number in
      let small : h < 8 = omega (arith, few, exists) in
      sym (same_event state event h small refl)
      ∙ none_of_kind state h event.kind (none_at state state.harts 0 h h none exists (omega arith))),
  (λ none.
      none_from state state.harts 0
      (λ number k below is.
      let small : number < 8 = omega (arith, few, below, is) in
      let exists : number < length state.harts = omega (arith, below, is) in
      none_of_hart state number
      (λ kind. none (of_kind number kind) (rw (number_kept number small) exists)))),
)
