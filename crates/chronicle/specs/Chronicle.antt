-- A history as contracts see it.
use Rattle.std.specs.Prelude.{ℕ, ◌-◌, List, length, map}
use Rattle.el_base.specs.declared.entries.Entry.{Entry}
use Rattle.el_base.specs.declared.events.Event.{Event}

-- the events made so far with their outcomes, and the number of places for them
pub record Chronicle : Type 0 where
  pub entries : List Entry
  pub places : ℕ

-- how many places are left
abbrev pub spare_of : Chronicle → ℕ
spare_of history = history.places - length history.entries

-- the events alone
abbrev pub events : List Entry → List Event
events entries = map (λ entry. entry.event) entries
