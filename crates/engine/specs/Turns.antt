-- what an event leaves, told once, and what a step of a hart does: each is a turn of the definition
use Rattle.std.specs.Prelude.{◌≡◌}
use Rattle.el_base.specs.declared.events.Event.{Event}
use Rattle.el_base.specs.declared.outcomes.Outcome.{Outcome}
use Rattle.el_model.specs.Next.{next}
use Rattle.el_model.specs.State.{ModelState, Turn}
use Rattle.engine.specs.MainMemory.{lines_from}
use Rattle.engine.specs.Parts.{IsInState, Parts}
use Rattle.engine.specs.Reached.{IsReached}
use Rattle.snoop.specs.Shows.{IsReady}

-- from each state in which a hart acts so, the parts have come to be in the state of the turn, with its outcome; the
-- bus is ready, and main memory is as it was
pub record TakesTurn (Acts : ModelState → Type 0) (turn : ModelState → Turn) (old new : Parts)
    (result : Outcome) : Type 0 where
  pub ready : IsReady new.bus
  pub state : (from : ModelState) → Acts from → IsInState new (turn from).state
  pub outcome : (from : ModelState) → Acts from → result ≡ (turn from).outcome
  pub memory_stays : new.bus.copies.lines ≡ old.bus.copies.lines

-- from each state in which a program comes to be, the parts have come to be in the state after the event, with its
-- outcome; the bus is ready, and main memory is what the event makes of it
pub record TakesEvent (event : Event) (old new : Parts) (result : Outcome) : Type 0 where
  pub ready : IsReady new.bus
  pub state : (from : ModelState) → IsReached from → IsInState old from → IsInState new (next from event).state
  pub outcome : (from : ModelState) → IsReached from → IsInState old from → result ≡ (next from event).outcome
  pub memory : (from : ModelState) → IsReached from → IsInState old from →
      new.bus.copies.lines ≡ lines_from from event old.bus.copies.lines
