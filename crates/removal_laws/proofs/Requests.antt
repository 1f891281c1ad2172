-- a request has the stamp of its hart's attempt, and its hart is one of the machine's
use Rattle.std.proofs.Common.{◌≡◌, ◌∙◌, ◌≤◌, ℕ, Bool, true, false, length, Option, None, Some, is_some}
use Rattle.std.proofs.Common.{ap, sym, inl, inr, ◌⊎◌, subst}
use Rattle.std.proofs.lemmas.Bool.{cases_eq}
use Rattle.std.proofs.lemmas.Option.{same_Some}
use Rattle.bus_order.specs.Order.{Request, removed, request_of}
use Rattle.bus_order.proofs.Laws.LookUps.{request_of_removed_other}
use Rattle.bus_order.proofs.Laws.LookUps.{request_of_removed_own}
use Rattle.el_base.specs.declared.events.Event.{Event}
use Rattle.el_base.proofs.Laws.Cases.{some_none}
use Rattle.el_model.specs.BusEvent.{IsBusEvent, Nothing, Places, Serves, Start, StartsWhere, Takes, having_taken}
use Rattle.el_model.specs.BusEvent.{order_after, order_at, started}
use Rattle.el_model.specs.Deed.{Arms, Begins, Buffers, Commits, Continues, Deed, DoesWhere, Elides, LetsGo, Misses}
use Rattle.el_model.specs.Deed.{Rests, RollsBack, Runs, Waits, hart_after}
use Rattle.el_model.specs.Next.{next, step_turn}
use Rattle.el_model.specs.Plain.{after_candidate, candidate_of}
use Rattle.el_model.specs.Serve.{bystander, served_hart, with_claim}
use Rattle.el_model.specs.State.{Hart, ModelState, Turn, hart_of, ordered_of, raised_of}
use Rattle.el_model.specs.Upcoming.{Swap}
use Rattle.el_model.proofs.Laws.BusEvents.{by_event}
use Rattle.el_model.proofs.Laws.Deeds.{is_rolled, step_deed}
use Rattle.el_model.proofs.Laws.Harts.{hart_of-past}
use Rattle.el_model.proofs.Laws.Tests.{by_hart}
use Rattle.el_model.proofs.Laws.EachHart.{Each}
use Rattle.el_model.proofs.Laws.Orders.{placed_own}
use Rattle.section_laws.proofs.Laws.Moves.{Moves, moved, moves_by_ends, step_keeps, taken_keeps}
use Rattle.section_laws.proofs.Laws.Numbered.{next_count, order_keeps}
use Rattle.section_laws.proofs.Laws.OrderedHarts.{AreBelow, below_kept}
use Rattle.section_laws.proofs.Laws.Waiting.{Sound, free_of_order, no_request, order_other}
use Rattle.stamp.specs.Stamps.{Stamp}

-- a hart's requests, raised or ordered, have the stamp of its attempt
pub record HasStamp (ordered raised : Option Request) (attempt : Option Stamp) : Type 0 where
  pub raised_is : (request : Request) → raised ≡ Some request → request.stamp ≡ attempt
  pub ordered_is : (request : Request) → ordered ≡ Some request → request.stamp ≡ attempt

abbrev Stamping : (ℕ → Option Request) → ℕ → Hart → Type 0
Stamping ordered h hart = HasStamp (ordered h) hart.raised hart.attempt

abbrev pub AllStamped : ModelState → Type 0
AllStamped state = Each (Stamping (ordered_of state)) state

moves : (ordered : ℕ → Option Request) → Moves (Stamping ordered)
moves ordered = moves_by_ends (λ h hart other now. now)
    (λ h hart now. now)
    (λ h pc hart now. now)

pub raised_own : (state : ModelState) (h : ℕ) (request : Request) → Sound state → raised_of state h ≡ Some request →
    raised_of state request.hart ≡ Some request
raised_own state h request sound raised = ap (raised_of state) ((sound h).own request raised) ∙ raised

-- a request that is served
claim_stamped : (ordered : Option Request) (live : Bool) (request : Request) (hart : Hart) →
    HasStamp ordered hart.raised hart.attempt →
    HasStamp ordered (with_claim live request hart).raised (with_claim live request hart).attempt
claim_stamped ordered true request hart now = now
claim_stamped ordered false request hart now = now

served_ordered : (state : ModelState) (request : Request) (g : ℕ) → AllStamped state →
    Stamping (request_of (removed state.order request.hart)) g (hart_of state g)
served_ordered state request g now = gone (cases_eq g request.hart)
  where
    gone : (g ≡ request.hart) ⊎ (g ≡ request.hart → ⊥) →
        Stamping (request_of (removed state.order request.hart)) g (hart_of state g)
    gone (inl same) = record {
      raised_is = (now g).raised_is;
      ordered_is = λ other is. some_none (sym is ∙ ap (request_of (removed state.order request.hart)) same
          ∙ request_of_removed_own state.order request.hart);
    }
    gone (inr apart) = rw (request_of_removed_other state.order request.hart g (λ same. apart (sym same))) (now g)

-- each hart after the start of an event, and past the last hart
started_stamped : (state : ModelState) (by : ℕ) (start : Start) → Sound state → AllStamped state →
    StartsWhere state by start → (h : ℕ) →
    Stamping (request_of (order_after state start)) h (started state by start h (hart_of state h))
started_stamped state by Nothing sound now where_it h = now h
started_stamped state by (Places request place) sound now may h =
    let ordered = request_of (order_at state request place) in
    let mine = raised_own state by request sound may.raised in
    by_hart (Stamping ordered h) h request.hart (record (hart_of state h) { raised = None }) (hart_of state h)
    (λ own.
    rw own
    (record {
      raised_is = λ other is. some_none (sym is);
      ordered_is = λ other is.
          subst (λ r. r.stamp ≡ (hart_of state request.hart).attempt)
          (same_Some _ _
          (sym (placed_own state request place (free_of_order state request.hart request sound mine)) ∙ is))
          ((now request.hart).raised_is request mine);
    }))
    (λ apart. rw (order_other state request place h apart) (now h))
started_stamped state by (Serves request) sound now may h =
    let ordered = request_of (removed state.order request.hart) in
    by_hart (Stamping ordered h) h request.hart (served_hart state request (hart_of state h))
    (bystander state request (hart_of state h))
    (λ own. claim_stamped (ordered h) (is_some (hart_of state h).section) request _
    (served_ordered state request h now))
    (λ apart. served_ordered state request h now)
started_stamped state by (Takes message others) sound now where_it h =
    by_hart (Stamping (ordered_of state) h) h by (having_taken message others (hart_of state h)) (hart_of state h)
    (λ own. taken_keeps (moves (ordered_of state)) message others h (hart_of state h) (now h)) (λ other. now h)

past_stamped : (state : ModelState) (by : ℕ) (start : Start) → Sound state → AllStamped state →
    StartsWhere state by start → (h : ℕ) →
    length state.harts ≤ h → Stamping (request_of (order_after state start)) h (hart_of state h)
past_stamped state by Nothing sound now where_it h past = now h
past_stamped state by (Places request place) sound now may h past = by_own (cases_eq h request.hart)
  where
    by_own : (h ≡ request.hart) ⊎ (h ≡ request.hart → ⊥) →
        Stamping (request_of (order_at state request place)) h (hart_of state h)
    by_own (inl same) =
        some_none (sym (raised_own state by request sound may.raised) ∙ ap (raised_of state) (sym same)
        ∙ ap (λ hart. hart.raised) (hart_of-past state h past))
    by_own (inr apart) = rw (order_other state request place h apart) (now h)
past_stamped state by (Serves request) sound now may h past = served_ordered state request h now
past_stamped state by (Takes message others) sound now where_it h past = now h

bus_stamped : {state : ModelState} {by : ℕ} {turn : Turn} → IsBusEvent state by turn → Sound state → AllStamped state →
    AllStamped turn.state
bus_stamped {state} {by} {turn} done sound now h =
    let ordered = request_of (order_after state done.start) in
    let stamped : Stamping ordered h (hart_of turn.state h) =
    moved (moves ordered) state by done.start h (past_stamped state by done.start sound now done.where_it h)
    (λ below. started_stamped state by done.start sound now done.where_it h) (done.becomes h) in
    rw done.order stamped

-- a deed
candidate_stamped : (ordered : Option Request) (pc : Option ℕ) (had_watch : Bool) (candidate : Option Swap) (hart :
    Hart) → HasStamp ordered hart.raised hart.attempt →
    HasStamp ordered (after_candidate pc had_watch candidate hart).raised
    (after_candidate pc had_watch candidate hart).attempt
candidate_stamped ordered pc had_watch None hart now = now
candidate_stamped ordered pc had_watch (Some swap) hart now = now

-- a hart without a request
unasked : (ordered raised : Option Request) (attempt : Option Stamp) → raised ≡ None → ordered ≡ None →
    HasStamp ordered raised attempt
unasked ordered raised attempt not_raised not_ordered = record {
  raised_is = λ request is. some_none (sym is ∙ not_raised);
  ordered_is = λ request is. some_none (sym is ∙ not_ordered);
}

deed_stamped : (state : ModelState) (h : ℕ) (deed : Deed) → DoesWhere state h deed → AllStamped state →
    Stamping (ordered_of state) h (hart_after state h deed (hart_of state h))
deed_stamped state h Rests does now = now h
deed_stamped state h Waits does now = now h
deed_stamped state h (Misses line need) does now = record {
  raised_is = λ request is. sym (ap (λ r. r.stamp) (same_Some _ _ is));
  ordered_is = (now h).ordered_is;
}
deed_stamped state h (Runs touch) does now = candidate_stamped (ordered_of state h) _ _ (candidate_of state h) _ (now h)
deed_stamped state h (Begins swap) does now =
    let none = no_request state h does.outside.free in
    unasked (ordered_of state h) _ _ none.not_raised none.not_ordered
deed_stamped state h (Buffers section touch) does now = now h
deed_stamped state h (Commits section) does now =
    let none = no_request state h does.goes_on.is_short.inside.free in
    unasked (ordered_of state h) _ _ none.not_raised none.not_ordered
deed_stamped state h (RollsBack section cause) does now =
    let none = no_request state h (is_rolled state h section cause does).free in
    unasked (ordered_of state h) _ _ none.not_raised none.not_ordered
deed_stamped state h (Arms word) does now = now h
deed_stamped state h (Elides armed swap) does now =
    let none = no_request state h does.is_armed.free in
    unasked (ordered_of state h) _ _ none.not_raised none.not_ordered
deed_stamped state h (Continues armed) does now = now h
deed_stamped state h (LetsGo armed) does now = now h

step_stamped : (state : ModelState) (h : ℕ) → AllStamped state → AllStamped (step_turn state h).state
step_stamped state h now =
    let step = step_deed state h in
    let keeps =
    step_keeps (Stamping (ordered_of state)) state h (λ deed does. deed_stamped state h deed does now) now in
    λ g.
    subst (λ o. HasStamp (request_of o g) (hart_of (step_turn state h).state g).raised
    (hart_of (step_turn state h).state g).attempt)
    (sym (ap (λ turn. turn.state.order) step.turn_is)) (keeps g)

pub next_stamped : (state : ModelState) (event : Event) → Sound state → AllStamped state →
    AllStamped (next state event).state
next_stamped state event sound now =
    by_event (λ turn. AllStamped turn.state) state event (λ step. step_stamped state event.hart.number now)
    (λ turn done. bus_stamped done sound now)

-- each ordered request is of a hart of the machine
abbrev pub AllBelow : ModelState → Type 0
AllBelow state = AreBelow (length state.harts) state.order

pub next_below : (state : ModelState) (event : Event) → Sound state → AllBelow state → AllBelow (next state event).state
next_below state event sound now =
    rw (next_count state event) (order_keeps state event (below_kept (length state.harts)) sound now)
