-- lists of events, by induction
use Rattle.std.proofs.Common.{◌≡◌, suc, List, ◌∷◌, ◌++◌, [], length, map, refl, ◌∙◌, ap, sym}
use Rattle.chronicle.specs.Chronicle.{events}
use Rattle.chronicle.specs.Serial.{serial, taking_effect}
use Rattle.el_base.specs.declared.events.Event.{Event}
use Rattle.el_model.specs.Next.{entries_from, next, outcomes_from, state_after}
use Rattle.el_model.specs.State.{ModelState}
use Rattle.el_model.proofs.Turns.{events_take_effect}
use Rattle.rv_flat.specs.Run.{run}
use Rattle.rv_flat.proofs.Laws.StepLaws.{run_append}

pub state_after-append : (state : ModelState) (first second : List Event) →
    state_after state (first ++ second) ≡ state_after (state_after state first) second
state_after-append state [] second = refl
state_after-append state (event ∷ events) second = state_after-append (next state event).state events second

pub outcomes_from-append : (state : ModelState) (first second : List Event) →
    outcomes_from state (first ++ second) ≡ outcomes_from state first ++ outcomes_from (state_after state first) second
outcomes_from-append state [] second = refl
outcomes_from-append state (event ∷ events) second =
    ap (λ rest. (next state event).outcome ∷ rest) (outcomes_from-append (next state event).state events second)

pub entries_from-append : (state : ModelState) (first second : List Event) →
    entries_from state (first ++ second) ≡ entries_from state first ++ entries_from (state_after state first) second
entries_from-append state [] second = refl
entries_from-append state (event ∷ events) second =
    ap (λ rest. record { event = event; outcome = (next state event).outcome } ∷ rest)
    (entries_from-append (next state event).state events second)

pub length-outcomes_from : (state : ModelState) (events : List Event) →
    length (outcomes_from state events) ≡ length events
length-outcomes_from state [] = refl
length-outcomes_from state (event ∷ events) = ap suc (length-outcomes_from (next state event).state events)

pub length-entries_from : (state : ModelState) (events : List Event) →
    length (entries_from state events) ≡ length events
length-entries_from state [] = refl
length-entries_from state (event ∷ events) = ap suc (length-entries_from (next state event).state events)

-- the events and the outcomes of entries are those that were made
pub events-entries_from : (state : ModelState) (made : List Event) → events (entries_from state made) ≡ made
events-entries_from state [] = refl
events-entries_from state (event ∷ made) = ap (λ rest. event ∷ rest) (events-entries_from (next state event).state made)

pub outcomes-entries_from : (state : ModelState) (made : List Event) →
    map (λ entry. entry.outcome) (entries_from state made) ≡ outcomes_from state made
outcomes-entries_from state [] = refl
outcomes-entries_from state (event ∷ made) =
    ap (λ rest. (next state event).outcome ∷ rest) (outcomes-entries_from (next state event).state made)

-- the committed state after events is that of one run in their serial order
pub serial_run : (state : ModelState) (events : List Event) →
    (state_after state events).committed ≡ run state.committed (serial (entries_from state events))
serial_run state [] = refl
serial_run state (event ∷ events) =
    serial_run (next state event).state events
    ∙ ap (λ committed. run committed (serial (entries_from (next state event).state events)))
    (events_take_effect state event)
    ∙ sym
    (run_append state.committed (taking_effect event.hart.number (next state event).outcome)
    (serial (entries_from (next state event).state events)))
