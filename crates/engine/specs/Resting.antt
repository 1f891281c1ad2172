-- events that leave all as it was: those of the bus that find nothing to do, and a whole turn of a hart that waits
use Rattle.std.specs.Prelude.{ℕ, ◌≡◌, Bool, false, List, None, Option, Some, if◌then◌else◌, is_none, length, not, ◌==◌}
use Rattle.std.specs.Prelude.{◌&&◌}
use Rattle.bus_order.specs.Order.{Request}
use Rattle.el_base.specs.declared.events.Event.{Event}
use Rattle.el_base.specs.declared.events.Kind.{Kind}
use Rattle.el_base.specs.declared.events.Kind.TheVariants as kinds
use Rattle.el_base.specs.declared.outcomes.Outcome.{Outcome}
use Rattle.el_model.specs.Next.{has_stopped, next}
use Rattle.el_model.specs.Serve.{obstacle_to}
use Rattle.el_model.specs.State.{ModelState, hart_of, ordered_of, raised_of}
use Rattle.engine.specs.MainMemory.{lines_from}
use Rattle.rv_flat.specs.FlatState.{status_of}
use Rattle.snoop.specs.Obstacles.{blocked_by}

-- the hart has raised nothing that an order would place, has nothing in the order that a serve would look at, or has no
-- message that would be delivered; a step is none of these
abbrev pub nothing_for : ModelState → ℕ → Kind → Bool
nothing_for state h kinds.Step = false
nothing_for state h kinds.Order = is_none (raised_of state h)
nothing_for state h kinds.Serve = is_none (ordered_of state h)
nothing_for state h kinds.Deliver = length (hart_of state h).mail == 0

abbrev pub finds_nothing : ModelState → Event → Bool
finds_nothing state event = nothing_for state event.hart.number event.kind

-- the bus is quiet for a hart: none of its events in the hart's turn finds anything to do
abbrev pub is_quiet : ModelState → ℕ → Bool
is_quiet state h =
    nothing_for state h kinds.Order && nothing_for state h kinds.Serve && nothing_for state h kinds.Deliver

-- a hart runs, has raised nothing, and no message has come to it
abbrev pub is_still : ModelState → ℕ → Bool
is_still state h =
    not (has_stopped (status_of state.committed h))
    && (nothing_for state h kinds.Order && nothing_for state h kinds.Deliver)

-- what comes of a serve of a request that something is in the way of, if there is such a request
abbrev pub blocked_request : ModelState → Option Request → Option Outcome
blocked_request state None = None
blocked_request state (Some request) = blocked_by (obstacle_to state request)

-- what comes of a serve in the turn of a hart that waits in all of it, and none where it does not wait so
abbrev pub waiting_of : ModelState → ℕ → Option Outcome
waiting_of state h = if is_still state h then blocked_request state (ordered_of state h) else None

-- an event leaves the state as it is, and main memory, with this outcome
pub record Leaves (state : ModelState) (event : Event) (outcome : Outcome) : Type 0 where
  pub turn : next state event ≡ record { state = state; outcome = outcome }
  pub lines : (lines : List (List ℕ)) → lines ≡ lines_from state event lines
