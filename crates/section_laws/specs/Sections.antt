-- what becomes of sections, as it is told
use Rattle.std.specs.Prelude.{ℕ, ◌≡◌, ◌≢◌, ◌==◌, ◌&&◌, ◌+◌, Bool, true, false, List, [], ◌∷◌, is_some, length, ◌≤◌}
use Rattle.std.specs.Prelude.{if◌then◌else◌}
use Rattle.chronicle.specs.Serial.{serial}
use Rattle.el_base.specs.Config.{IsInRange}
use Rattle.el_base.specs.declared.config.Config.{Config}
use Rattle.el_base.specs.declared.entries.Entry.{Entry}
use Rattle.el_base.specs.declared.events.Event.{Event}
use Rattle.el_base.specs.declared.events.Kind.TheVariants as kinds
use Rattle.el_base.specs.declared.outcomes.Cause.{Cause}
use Rattle.el_base.specs.declared.outcomes.Outcome.{Outcome}
use Rattle.el_base.specs.declared.outcomes.Outcome.TheVariants.{Stalled, Missed, Began, Buffered, Committed, RolledBack}
use Rattle.el_base.specs.declared.outcomes.Outcome.TheVariants.{Ran}
use Rattle.elf_image.specs.Program.{Program}
use Rattle.el_base.specs.Winners.{winner_over}
use Rattle.el_model.specs.Next.{after, entries_from, next, state_after}
use Rattle.el_model.specs.Plain.{candidate_of}
use Rattle.el_model.specs.State.{ModelState, begin, is_live}

-- how a step of a hart with a live section may come out
abbrev pub IsOfSection : Outcome → Type 0
IsOfSection Stalled = Unit {0}
IsOfSection (Missed line need) = Unit {0}
IsOfSection Buffered = Unit {0}
IsOfSection (Committed count) = Unit {0}
IsOfSection (RolledBack cause) = Unit {0}
IsOfSection _ = ⊥

-- a step of a hart with a live section waits, misses a line, buffers an instruction, commits or rolls back
abbrev pub SectionStepsAreOfFiveKinds : Type 0
SectionStepsAreOfFiveKinds =
    (program : Program) (config : Config) (events : List Event) (event : Event) → event.kind ≡ kinds.Step →
    is_live (after program config events) event.hart.number ≡ true →
    IsOfSection (next (after program config events) event).outcome

-- in this event a hart runs a candidate for an acquire outside of a section
pub record RunsCandidate (state : ModelState) (h : ℕ) (event : Event) : Type 0 where
  pub step : event.kind ≡ kinds.Step
  pub own : event.hart.number ≡ h
  pub ran : (next state event).outcome ≡ Ran
  pub candidate : is_some (candidate_of state h) ≡ true

-- and in none of these events
abbrev pub NeverRunsCandidate : ModelState → ℕ → List Event → Type 0
NeverRunsCandidate state h [] = Unit {0}
NeverRunsCandidate state h (event ∷ events) =
    (RunsCandidate state h event → ⊥) × NeverRunsCandidate (next state event).state h events

-- after a rollback by the hart itself, it begins no section until it has run a candidate for
-- an acquire outside of a section
abbrev pub NoneBeginsAfterRollback : Type 0
NoneBeginsAfterRollback =
    (state : ModelState) (event later : Event) (events : List Event) (cause : Cause) →
    (next state event).outcome ≡ RolledBack cause →
    NeverRunsCandidate (next state event).state event.hart.number events → later.hart.number ≡ event.hart.number →
    (next (state_after (next state event).state events) later).outcome ≢ Began

-- what an outcome says of a section
abbrev pub is_began : Outcome → Bool
is_began Began = true
is_began _ = false

abbrev pub is_committed : Outcome → Bool
is_committed (Committed count) = true
is_committed _ = false

abbrev pub is_rolled_back : Outcome → Bool
is_rolled_back (RolledBack cause) = true
is_rolled_back _ = false

-- whether this entry begins, commits or rolls back a section of a hart, or has the hart among its losers
abbrev pub begins : ℕ → Entry → Bool
begins h entry = (entry.event.hart.number == h) && is_began entry.outcome

abbrev pub commits : ℕ → Entry → Bool
commits h entry = (entry.event.hart.number == h) && is_committed entry.outcome

abbrev pub rolls_back : ℕ → Entry → Bool
rolls_back h entry = (entry.event.hart.number == h) && is_rolled_back entry.outcome

abbrev pub loses : ℕ → Entry → Bool
loses h entry = is_some (winner_over entry.outcome h)

-- how many of these entries are so
abbrev pub count_of : (Entry → Bool) → List Entry → ℕ
count_of test [] = 0
count_of test (entry ∷ entries) = (if test entry then 1 else 0) + count_of test entries

-- each section that a hart began has committed, was rolled back, or was lost, but for the one that is live
abbrev pub BegunSectionsAreAccountedFor : Type 0
BegunSectionsAreAccountedFor =
    (program : Program) (config : Config) (events : List Event) (h : ℕ) → program.harts ≡ config.harts →
    IsInRange config → count_of (begins h) (entries_from (begin program config) events)
    ≡ count_of (commits h) (entries_from (begin program config) events)
    + count_of (rolls_back h) (entries_from (begin program config) events)
    + count_of (loses h) (entries_from (begin program config) events)
    + (if is_live (after program config events) h then 1 else 0)

-- no more instructions take effect than there were events
abbrev pub SerialOrderIsNoLonger : Type 0
SerialOrderIsNoLonger =
    (program : Program) (config : Config) (events : List Event) →
    length (serial (entries_from (begin program config) events)) ≤ length events
