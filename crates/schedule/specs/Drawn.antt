-- the events that are drawn from a seed
use Rattle.std.specs.Prelude.{ℕ, ◌≡◌, ◌*◌, ◌/◌, ◌%◌}
use Rattle.el_base.specs.declared.events.Event.{Event}
use Rattle.el_base.specs.Kinds.{kind_number}
use Rattle.schedule.specs.Generator.{draw}

-- the number at a place of a seed's sequence, modulo four times the harts: each kind of event of each hart once
abbrev pub choice : ℕ → ℕ → ℕ → ℕ
choice seed harts place = draw seed place % (4 * harts)

-- the event of so many harts that is drawn at a place
pub record IsDrawnAt (seed harts place : ℕ) (event : Event) : Type 0 where
  pub kind : kind_number event.kind ≡ choice seed harts place % 4
  pub hart : event.hart.number ≡ choice seed harts place / 4
