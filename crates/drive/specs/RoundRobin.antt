-- the round robin: harts in ascending order, each with an event of each kind, over and over
use Rattle.std.specs.Prelude.{ℕ, ◌≡◌, ◌<◌, ◌≤◌, ◌/◌, ◌%◌, ◌⊎◌, IsTrue, false, List, length, take, Some, slice_get}
use Rattle.el_base.specs.declared.events.Event.{Event}
use Rattle.el_base.specs.Kinds.{kind_number}
use Rattle.el_model.specs.Next.{is_over, state_after}
use Rattle.el_model.specs.State.{ModelState}

-- the event that comes at a place of the round robin of so many harts
pub record IsEventAt (harts place : ℕ) (event : Event) : Type 0 where
  pub kind : kind_number event.kind ≡ place % 4
  pub hart : event.hart.number ≡ (place / 4) % harts

-- the events of a round robin of so many harts, from a state on, with so many steps left: each is the one
-- of its place, and they end at the first moment at which every hart has stopped or no step is left
pub record IsRoundRobin (state : ModelState) (harts left : ℕ) (events : List Event) : Type 0 where
  pub turns : (place : ℕ) (event : Event) → slice_get events place ≡ Some event → IsEventAt harts place event
  pub steps : length events ≤ left
  pub going : (place : ℕ) → place < length events → is_over (state_after state (take place events)) ≡ false
  pub ended : (length events ≡ left) ⊎ IsTrue (is_over (state_after state events))
