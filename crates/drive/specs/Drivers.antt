-- what drivers make of a machine
use Rattle.std.specs.Prelude.{ℕ, ◌≡◌, ◌<◌, ◌≤◌, ◌⊎◌, List, length, take, false, Some, slice_get}
use Rattle.el_base.specs.declared.events.Event.{Event}
use Rattle.drive.specs.RoundRobin.{IsEventAt, IsRoundRobin}
use Rattle.el_model.specs.Next.{is_over, state_after}
use Rattle.drive.specs.Turns.{GoesByTurns, IsAtItsEnd, of_hart}
use Rattle.machine.specs.Story.{Story, continued, left_of, state_of}

-- a machine has gone on by a round robin of its harts, and by nothing else
pub record MakesRoundRobin (before later : Story) : Type 0 where
  pub made : List Event
  pub round_robin : IsRoundRobin (state_of before) before.config.harts (left_of before) made
  pub story : later ≡ continued before made

-- so many events of a round robin were made, and none where every hart had stopped: it may go on, or be at its end
pub record GoesRound (before now : Story) (place : ℕ) : Type 0 where
  pub made : List Event
  pub story : now ≡ continued before made
  pub count : length made ≡ place
  pub steps : place ≤ left_of before
  pub turns : (i : ℕ) (event : Event) → slice_get made i ≡ Some event → IsEventAt before.config.harts i event
  pub going : (i : ℕ) → i < length made → is_over (state_after (state_of before) (take i made)) ≡ false

-- a machine has gone on by turns of drivers, one a hart, and by nothing else: of each hart its turns from 0 on,
-- in order, turn t being its event of kind t mod 4; they are `turns` many of each hart, unless every hart has
-- stopped at the end or no step is left
pub record MakesTurns (turns : ℕ) (before later : Story) : Type 0 where
  pub made : List Event
  pub by_turns : GoesByTurns turns before later made
  pub steps : length made ≤ left_of before
  pub all : ((hart : ℕ) → hart < before.config.harts → length (of_hart hart made) ≡ turns) ⊎ IsAtItsEnd later
