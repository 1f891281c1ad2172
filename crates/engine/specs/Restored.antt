-- the harts after an event of the bus: some have lost their sections, and some were let go
use Rattle.std.specs.Prelude.{ℕ, ◌≡◌, ◌≤◌, ◌<◌, ◌==◌, List, Option, None, Some, length, if◌then◌else◌}
use Rattle.el_base.specs.Freed.{count_in}
use Rattle.el_base.specs.LetGo.{freed_of_outcome}
use Rattle.el_base.specs.Winners.{winner_over}
use Rattle.el_base.specs.declared.config.Mode.{Mode}
use Rattle.el_base.specs.declared.outcomes.Outcome.{Outcome}
use Rattle.engine.specs.Parts.{own_at}
use Rattle.hart_state.specs.Deeds.{let_go_own, lost_own}
use Rattle.hart_state.specs.Own.{OwnState}

-- an outcome names no hart that has lost its section, and none that was let go
pub record TellsOfNobody (outcome : Outcome) : Type 0 where
  pub none_lost : (g : ℕ) → winner_over outcome g ≡ None
  pub none_freed : (g : ℕ) → count_in (freed_of_outcome outcome) g ≡ 0

-- a hart of which so many instructions take effect: it is let go, where there are any
abbrev pub freed_own : ℕ → OwnState → OwnState
freed_own count own = if count == 0 then own else let_go_own own

-- a hart that has lost its section to a winner, if there is one, or of which so many instructions take effect
abbrev pub own_after : Mode → Option ℕ → ℕ → OwnState → OwnState
own_after mode None count own = freed_own count own
own_after mode (Some winner) count own = lost_own mode own

-- each hart is what the event leaves to it
pub record AreRestored (mode : Mode) (winner : ℕ → Option ℕ) (count : ℕ → ℕ) (old new : List OwnState) : Type 0 where
  pub number : length new ≡ length old
  pub each : (g : ℕ) → g < length old → own_at new g ≡ own_after mode (winner g) (count g) (own_at old g)

-- so is each hart below a number, and the others are as they were
pub record AreRestoredBelow (below : ℕ) (mode : Mode) (winner : ℕ → Option ℕ) (count : ℕ → ℕ)
    (old new : List OwnState) : Type 0 where
  pub number : length new ≡ length old
  pub done : (g : ℕ) → g < below → own_at new g ≡ own_after mode (winner g) (count g) (own_at old g)
  pub above : (g : ℕ) → below ≤ g → own_at new g ≡ own_at old g
