-- a run whose events are drawn from a seed
use Rattle.std.specs.Prelude.{ℕ, ◌≡◌, ◌<◌, ◌≤◌, ◌⊎◌, IsTrue, false, List, length, take, Some, slice_get}
use Rattle.el_base.specs.declared.events.Event.{Event}
use Rattle.el_model.specs.Next.{is_over, state_after}
use Rattle.el_model.specs.State.{ModelState}
use Rattle.machine.specs.Story.{Story, continued, left_of, state_of}
use Rattle.schedule.specs.Drawn.{IsDrawnAt}

-- the events that a seed draws for so many harts, from a state on, with so many steps left: each is the one of its
-- place, and they end at the first moment at which every hart has stopped or no step is left
pub record AreDrawn (seed : ℕ) (state : ModelState) (harts left : ℕ) (events : List Event) : Type 0 where
  pub drawn : (place : ℕ) (event : Event) → slice_get events place ≡ Some event → IsDrawnAt seed harts place event
  pub steps : length events ≤ left
  pub going : (place : ℕ) → place < length events → is_over (state_after state (take place events)) ≡ false
  pub ended : (length events ≡ left) ⊎ IsTrue (is_over (state_after state events))

-- a machine has gone on by the events that a seed draws, and by nothing else
pub record MakesDrawn (seed : ℕ) (before later : Story) : Type 0 where
  pub made : List Event
  pub drawn : AreDrawn seed (state_of before) before.config.harts (left_of before) made
  pub story : later ≡ continued before made

-- a seed draws one list of events
abbrev pub OneDrawnRun : Type 0
OneDrawnRun =
    (seed : ℕ) (state : ModelState) (harts left : ℕ) (first second : List Event) →
    AreDrawn seed state harts left first → AreDrawn seed state harts left second → first ≡ second
