-- drivers on threads: one a hart, each of which makes its turns in order
use Rattle.std.specs.Prelude.{ℕ, ◌≡◌, ◌<◌, ◌≤◌, ◌+◌, ◌%◌, ◌==◌, ◌⊎◌, IsTrue, All, false, List, ◌∷◌, filter, length}
use Rattle.std.specs.Prelude.{take, drop, Some, slice_get, slice_index}
use mathlib.Core.List.{IsPrefix}
use Rattle.chronicle.specs.Chronicle.{events}
use Rattle.el_base.specs.Kinds.{kind_number}
use Rattle.el_base.specs.declared.entries.Entry.{Entry}
use Rattle.el_base.specs.declared.events.Event.{Event}
use Rattle.el_model.specs.Next.{is_over, state_after}
use Rattle.machine.specs.Opening.{opening_of}
use Rattle.machine.specs.Story.{Story, continued, left_of, state_of}

-- the events of one hart, in their order
abbrev pub of_hart : ℕ → List Event → List Event
of_hart hart made = filter (λ event. event.hart.number == hart) made

-- these are turns from 0 on, in order, so many at most: the kinds go round
pub record AreTurns (most : ℕ) (made : List Event) : Type 0 where
  pub few : length made ≤ most
  pub kinds : (turn : ℕ) (event : Event) → slice_get made turn ≡ Some event → kind_number event.kind ≡ turn % 4

-- a machine has gone on by these events: of each hart its turns in order, and nothing else; at none
-- of them had every hart stopped
pub record GoesByTurns (turns : ℕ) (before later : Story) (made : List Event) : Type 0 where
  pub story : later ≡ continued before made
  pub each : (hart : ℕ) → AreTurns turns (of_hart hart made)
  pub exist : All (λ event. event.hart.number < before.config.harts) made
  pub going : (place : ℕ) → place < length made → is_over (state_after (state_of before) (take place made)) ≡ false

-- every hart has stopped, or no step is left
abbrev pub IsAtItsEnd : Story → Type 0
IsAtItsEnd story = IsTrue (is_over (state_of story)) ⊎ (left_of story ≡ 0)

-- what a lock keeps while drivers run: the machine's story, the number of its events before the first turn, and the
-- number of turns that each driver is to make
pub record RoundStory : Type 0 where
  pub base : ℕ
  pub turns : ℕ
  pub now : Story

abbrev pub before_of : RoundStory → Story
before_of round = record round.now { entries = take round.base round.now.entries }

abbrev pub made_in : RoundStory → List Event
made_in round = events (drop round.base round.now.entries)

-- how many turns a hart has made
abbrev pub turns_of : RoundStory → ℕ → ℕ
turns_of round hart = length (of_hart hart (made_in round))

abbrev pub round_opening : RoundStory → List ℕ
round_opening round = round.base ∷ round.turns ∷ opening_of round.now.program round.now.config

pub record IsRound (round : RoundStory) : Type 0 where
  pub within : round.base ≤ length round.now.entries
  pub by_turns : GoesByTurns round.turns (before_of round) round.now (made_in round)

-- the numbers of turns that the harts have made
abbrev pub AreCounts : RoundStory → List ℕ → Type 0
AreCounts round counts = (hart : ℕ) → hart < 8 → slice_index counts hart ≡ turns_of round hart

-- the round that has come to these entries
abbrev pub round_at : RoundStory → List Entry → RoundStory
round_at start entries = record start { now = record start.now { entries = entries } }

-- a driver has no more turn to make
abbrev pub HasEnded : RoundStory → ℕ → Type 0
HasEnded round hart = (turns_of round hart ≡ round.turns) ⊎ IsAtItsEnd round.now

-- at some point of this history a driver had no more turn to make
pub record WasEnded (start : RoundStory) (hart : ℕ) (seen : List Entry) : Type 0 where
  pub part : List Entry
  pub begins : IsPrefix part seen
  pub round : IsRound (round_at start part)
  pub ended : HasEnded (round_at start part) hart

-- at some points of this history the drivers of so many harts had no more turn to make
abbrev pub WereEnded : RoundStory → ℕ → ℕ → List Entry → Type 0
WereEnded start first harts seen = (hart : ℕ) → first ≤ hart → hart < first + harts → WasEnded start hart seen
