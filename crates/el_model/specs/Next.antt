-- one event, and lists of events
use Rattle.std.specs.Prelude.{ℕ, Bool, true, false, List, [], ◌∷◌, Option, None, Some, if◌then◌else◌}
use Rattle.std.specs.List.{list_all}
use Rattle.el_base.specs.declared.config.Config.{Config}
use Rattle.el_base.specs.declared.entries.Entry.{Entry}
use Rattle.el_base.specs.declared.events.Event.{Event}
use Rattle.el_base.specs.declared.events.Kind.{Kind}
use Rattle.el_base.specs.declared.events.Kind.TheVariants as kinds
use Rattle.el_base.specs.declared.outcomes.Outcome.{Outcome}
use Rattle.el_base.specs.declared.outcomes.Outcome.TheVariants.{Stalled}
use Rattle.el_model.specs.Armed.{armed_turn, shown_armed}
use Rattle.el_model.specs.Deliver.{deliver_turn}
use Rattle.el_model.specs.InSection.{section_turn, shown_in}
use Rattle.el_model.specs.Order.{order_turn}
use Rattle.el_model.specs.Plain.{plain_turn}
use Rattle.el_model.specs.Serve.{serve_turn}
use Rattle.el_model.specs.State.{Armed, ModelState, Section, Turn, armed_of, begin, has_request, idle, section_of}
use Rattle.rv_flat.specs.Program.{Program}
use Rattle.rv_alu.specs.declared.view.HartStatus.{HartStatus}
use Rattle.rv_alu.specs.declared.view.HartStatus.TheVariants.{Running, Exited, Trapped}
use Rattle.rv_alu.specs.declared.view.HartView.{HartView}
use Rattle.rv_flat.specs.FlatState.{status_of, view_of}

-- the hart waits for its request
abbrev pub stalled : ModelState → Turn
stalled state = record { state = state; outcome = Stalled }

-- a step of a hart that runs and waits for nothing
abbrev pub outside_turn : ModelState → ℕ → Option Armed → Turn
outside_turn state h None = plain_turn state h
outside_turn state h (Some armed) = armed_turn state h armed

abbrev pub going_turn : ModelState → ℕ → Option Section → Turn
going_turn state h None = outside_turn state h (armed_of state h)
going_turn state h (Some section) = section_turn state h section

abbrev pub running_turn : ModelState → ℕ → Turn
running_turn state h = if has_request state h then stalled state else going_turn state h (section_of state h)

-- a step of a hart with this status: one that has stopped has nothing to do
abbrev pub status_turn : ModelState → ℕ → HartStatus → Turn
status_turn state h Running = running_turn state h
status_turn state h (Exited code) = idle state
status_turn state h (Trapped cause pc) = idle state

unfoldable pub step_turn : ModelState → ℕ → Turn
step_turn state h = status_turn state h (status_of state.committed h)

-- an event of this kind
abbrev pub kind_turn : ModelState → ℕ → Kind → Turn
kind_turn state h kinds.Step = step_turn state h
kind_turn state h kinds.Order = order_turn state h
kind_turn state h kinds.Serve = serve_turn state h
kind_turn state h kinds.Deliver = deliver_turn state h

-- one event
unfoldable pub next : ModelState → Event → Turn
next state event = kind_turn state event.hart.number event.kind

-- the state after these events, from left to right
abbrev pub state_after : ModelState → List Event → ModelState
state_after state [] = state
state_after state (event ∷ events) = state_after (next state event).state events

-- what comes of each of these events
abbrev pub outcomes_from : ModelState → List Event → List Outcome
outcomes_from state [] = []
outcomes_from state (event ∷ events) = (next state event).outcome ∷ outcomes_from (next state event).state events

-- these events, each with what comes of it
abbrev pub entries_from : ModelState → List Event → List Entry
entries_from state [] = []
entries_from state (event ∷ events) =
    record { event = event; outcome = (next state event).outcome } ∷ entries_from (next state event).state events

-- the state of a program after these events, and what comes of them
abbrev pub after : Program → Config → List Event → ModelState
after program config events = state_after (begin program config) events

abbrev pub outcomes : Program → Config → List Event → List Outcome
outcomes program config events = outcomes_from (begin program config) events

-- what a hart itself sees: in a live or armed section what the section shows, else its committed view
abbrev pub view_outside : ModelState → ℕ → Option Armed → HartView
view_outside state h None = view_of state.committed h
view_outside state h (Some armed) = view_of (shown_armed state h armed) h

abbrev pub view_in : ModelState → ℕ → Option Section → HartView
view_in state h None = view_outside state h (armed_of state h)
view_in state h (Some section) = view_of (shown_in state h section) h

abbrev pub shown_of : ModelState → ℕ → HartView
shown_of state h = view_in state h (section_of state h)

-- it exited or trapped
abbrev pub has_stopped : HartStatus → Bool
has_stopped Running = false
has_stopped (Exited code) = true
has_stopped (Trapped cause pc) = true

abbrev pub all_stopped : List HartView → Bool
all_stopped views = list_all (λ view. has_stopped view.status) views

-- every hart has stopped
unfoldable pub is_over : ModelState → Bool
is_over state = all_stopped state.committed.harts
