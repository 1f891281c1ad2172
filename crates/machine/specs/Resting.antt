-- a hart's turn, and the part of it that most often finds nothing to do
use Rattle.std.specs.Prelude.{List, [], ◌∷◌}
use Rattle.el_base.specs.declared.events.Event.{Event}
use Rattle.el_base.specs.declared.events.Kind.TheVariants as kinds
use Rattle.el_base.specs.declared.hart_id.HartId.{HartId}

-- the events of the bus in a hart's turn, in their order
abbrev pub bus_events : HartId → List Event
bus_events hart =
    record { kind = kinds.Order; hart = hart } ∷ record { kind = kinds.Serve; hart = hart } ∷
    record { kind = kinds.Deliver; hart = hart } ∷ []

-- all events of a hart's turn, in their order
abbrev pub turn_events : HartId → List Event
turn_events hart = record { kind = kinds.Step; hart = hart } ∷ bus_events hart
