-- what is told of a story, event by event
use Rattle.std.specs.Prelude.{ℕ, ◌+◌, List, [], ◌∷◌, ◌++◌}
use Rattle.el_base.specs.declared.events.Event.{Event}
use Rattle.el_model.specs.Next.{next}
use Rattle.el_model.specs.State.{ModelState}

-- what these events tell, one after another, where `tells` says what one event at a place
-- tells; the first is at a place
abbrev pub told_from : {X : Type 0} → (ModelState → ℕ → Event → List X) → ModelState → ℕ → List Event → List X
told_from tells state place [] = []
told_from tells state place (event ∷ events) =
    tells state place event ++ told_from tells (next state event).state (place + 1) events
