-- the event that a machine may make to get on
use Rattle.std.specs.Prelude.{ℕ, Bool, true, false, List, [], ◌∷◌, Option}
use Rattle.std.specs.List.{find, flat_map}
use Rattle.el_base.specs.HartId.{hart_id}
use Rattle.el_base.specs.declared.events.Event.{Event}
use Rattle.el_base.specs.declared.events.Kind.TheVariants.{Step, Order, Serve, Deliver}
use Rattle.el_base.specs.declared.outcomes.Outcome.{Outcome}
use Rattle.el_base.specs.declared.outcomes.Outcome.TheVariants.{Idle, Stalled, Blocked}
use Rattle.el_model.specs.Next.{next}
use Rattle.el_model.specs.State.{ModelState, numbers_of}

-- whether an outcome is progress: there was something to do, and nothing to wait for
abbrev pub is_progress : Outcome → Bool
is_progress Idle = false
is_progress Stalled = false
is_progress (Blocked why by) = false
is_progress _ = true

-- whether an event is progress, made in a state
abbrev pub gets_on : ModelState → Event → Bool
gets_on state event = is_progress (next state event).outcome

-- a hart's events, one of each kind in their order
abbrev pub events_of : ℕ → List Event
events_of h =
    record { kind = Step; hart = hart_id h } ∷ record { kind = Order; hart = hart_id h } ∷
    record { kind = Serve; hart = hart_id h } ∷
    record { kind = Deliver; hart = hart_id h } ∷ []

-- the events that a machine may make, by ascending hart
abbrev pub events_in : ModelState → List Event
events_in state = flat_map events_of (numbers_of state)

-- the first of them that is progress
abbrev pub ready_event : ModelState → Option Event
ready_event state = find (gets_on state) (events_in state)
