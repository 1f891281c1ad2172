-- what a call of the bus leaves, told once: the bus is ready again, and shows the state that the definition gives
use Rattle.std.specs.Prelude.{ℕ, ◌≡◌, List}
use Rattle.coherence.specs.Lent.{LeavesHolds}
use Rattle.el_model.specs.State.{Hart, ModelState, with_hart}
use Rattle.line_pool.specs.Pooled.{Pooled}
use Rattle.snoop.specs.LettingGo.{IsNotedAs, KeepsBytes}
use Rattle.snoop.specs.Shows.{BusState, IsReady, Shows, StaysTold, Tells}

-- a call that touches no copy of a line: whatever state the bus showed, it shows what this makes of that one
pub record LeavesCopies (becomes : ModelState → ModelState) (old new : BusState) : Type 0 where
  pub ready : IsReady new
  pub mode : new.mode ≡ old.mode
  pub shows : (state : ModelState) → Shows old state → Shows new (becomes state)
  pub copies_stay : new.copies ≡ old.copies

-- a hart is noted as armed with a count, or as not armed with 0, and no copy is touched
pub record LeavesNoted (h count : ℕ) (old new : BusState) : Type 0 where
  pub ready : IsReady new
  pub shows : (state : ModelState) (now : Hart) → Shows old state → IsNotedAs state h count now →
      Shows new (with_hart state h now)
  pub copies_stay : new.copies ≡ old.copies

-- a call that moves no line, from each state in which it starts so: caches may have fewer bits after it
pub record LeavesLines (Starts : ModelState → Type 0) (becomes : ModelState → ModelState)
    (old new : BusState) : Type 0 where
  pub ready : IsReady new
  pub shows : (state : ModelState) → Starts state → Shows new (becomes state)
  pub memory_stays : new.copies.lines ≡ old.copies.lines
  pub told : StaysTold old new

-- a call that may move a line, and with it what a pool has for the caches: they tell what they told,
-- and sections hold what they held
pub record LeavesTold (Starts : ModelState → Type 0) (becomes : ModelState → ModelState) (before after : Pooled)
    (old new : BusState) : Type 0 where
  pub ready : IsReady new
  pub shows : (state : ModelState) → Starts state → Shows new (becomes state)
  pub told : (bytes : ℕ → List ℕ) → Tells before old bytes → Tells after new bytes
  pub holds : LeavesHolds before after

-- a state that the bus shows, of which this makes one with the memory of before: so it is owed
-- where armed sections may be let go
pub record ShowsKept (becomes : ModelState → ModelState) (bus : BusState) (state : ModelState) : Type 0 where
  pub shows : Shows bus state
  pub keeps : KeepsBytes state.committed (becomes state).committed

-- a call that moves no line and by which live sections may be lost
abbrev pub LosesSections : (ModelState → ModelState) → BusState → BusState → Type 0
LosesSections becomes old new = LeavesLines (Shows old) becomes old new

-- one that moves no line either, and by which armed sections may be let go as well
abbrev pub EndsSections : (ModelState → ModelState) → BusState → BusState → Type 0
EndsSections becomes old new = LeavesLines (ShowsKept becomes old) becomes old new

-- the same of a call that may move a line first
abbrev pub MovesAndEnds : (ModelState → ModelState) → Pooled → Pooled → BusState → BusState → Type 0
MovesAndEnds becomes before after old new = LeavesTold (ShowsKept becomes old) becomes before after old new
