-- what one event keeps of live sections, of their stamps and of what other harts see
use Rattle.std.specs.Prelude.{ℕ, ◌≡◌, ◌≢◌, ◌+◌, ◌==◌, ◌&&◌, ◌||◌, ◌⊎◌, ◌<◌, Bool, true, false, List, None, Some, IsSome}
use Rattle.std.specs.Prelude.{length, slice_index}
use Rattle.el_base.specs.declared.config.Config.{Config}
use Rattle.el_base.specs.declared.config.Mode.TheVariants.{Tlr}
use Rattle.el_base.specs.declared.events.Event.{Event}
use Rattle.el_base.specs.declared.events.Kind.TheVariants as kinds
use Rattle.el_base.specs.declared.outcomes.Outcome.{Outcome}
use Rattle.el_base.specs.declared.outcomes.Outcome.TheVariants.{Committed}
use Rattle.el_model.specs.InSection.{shown_in}
use Rattle.el_base.specs.Winners.{winner_over}
use Rattle.el_model.specs.State.{ModelState, Section, has_request, is_live, section_of}
use Rattle.el_model.specs.Upcoming.{is_release}
use Rattle.machine.specs.Story.{Story, state_of}
use Rattle.progress_laws.specs.LeastStamp.{LeastWaits, MovesOn}
use Rattle.progress_laws.specs.RemovalLaws.{HasLeast, LosesToEarlier, attempt_of}
use Rattle.engine.specs.RunLaws.{IsUntouched}
use Rattle.rv_flat.specs.Memory.{byte_in}
use Rattle.rv_flat.specs.Run.{alone}
use Rattle.engine.specs.Sections.{is_committed, is_rolled_back}
use Rattle.engine.specs.KeptRun.{section_byte}
use Rattle.stamp.specs.Stamps.{Stamp}
use Rattle.engine.specs.Survivors.{IsNoStepOf}
use Rattle.write_hold.specs.Held.{Entry}

-- one event: the states before and after it, and what came of it
pub record Change : Type 0 where
  pub old : ModelState
  pub event : Event
  pub outcome : Outcome
  pub new : ModelState

abbrev pub change : Story → Event → Outcome → Story → Change
change old event outcome new = record { old = state_of old; event = event; outcome = outcome; new = state_of new }

-- whether a hart's attempt closes: its section commits, or the hart rolls it back itself
abbrev pub closes : Event → Outcome → ℕ → Bool
closes event outcome h = (event.hart.number == h) && (is_committed outcome || is_rolled_back outcome)

-- a hart ends its section itself: by its step the section commits or is rolled back
pub record EndsIt (event : Event) (outcome : Outcome) (h : ℕ) : Type 0 where
  pub own : event.hart.number ≡ h
  pub step : event.kind ≡ kinds.Step
  pub how : (is_committed outcome ≡ true) ⊎ (is_rolled_back outcome ≡ true)

-- a live section ends by its own hart's commit or rollback, or its hart is among the losers that the outcome names
abbrev pub EndsAreNamed : Change → Type 0
EndsAreNamed change =
    (h : ℕ) → is_live change.old h ≡ true → is_live change.new h ≡ false →
    EndsIt change.event change.outcome h ⊎ IsSome (winner_over change.outcome h)

-- whoever lost, lost to a hart that waits with a stamp less than the loser's
abbrev pub LosesToLess : Change → Type 0
LosesToLess change = (h winner : ℕ) → winner_over change.outcome h ≡ Some winner → LosesToEarlier change.new h winner

-- a hart with the least stamp of all loses to nobody
abbrev pub LeastStays : Change → Type 0
LeastStays change = (h : ℕ) (stamp : Stamp) → HasLeast change.old h stamp → winner_over change.outcome h ≡ None

-- where the hart of the least stamp waits for a line, and all messages about that line are delivered, no live section
-- retains the line, and a serve of its first request is served, or blocked by a hart that holds it until its next step
abbrev pub LineOfLeastMovesOn : ModelState → Type 0
LineOfLeastMovesOn state = (h line : ℕ) → LeastWaits state h line → MovesOn state line

-- a hart keeps its stamp until its attempt closes
abbrev pub StampsStay : Change → Type 0
StampsStay change =
    (h : ℕ) (stamp : Stamp) → closes change.event change.outcome h ≡ false → attempt_of change.old h ≡ Some stamp →
    attempt_of change.new h ≡ Some stamp

-- a section commits: all its instructions take effect at once, the release with them
pub record TakesEffect (change : Change) (section : Section) : Type 0 where
  pub outcome : change.outcome ≡ Committed (section.count + 1)
  pub committed : change.new.committed ≡ alone change.old.committed change.event.hart.number (section.count + 1)

-- a section that is not at its longest commits by the step that is its release, where its hart waits for no request
abbrev pub ReleasesTakeEffect : ℕ → Change → Type 0
ReleasesTakeEffect long change =
    let h = change.event.hart.number in
    (section : Section) → change.event.kind ≡ kinds.Step → section_of change.old h ≡ Some section →
    has_request change.old h ≡ false → section.count ≢ long →
    is_release (shown_in change.old h section) h section.word section.old ≡ true → TakesEffect change section

-- a section that lives on, and whose hart did not step, is as it was and shows the same
abbrev pub OthersAreUntouched : Change → Type 0
OthersAreUntouched change =
    (h : ℕ) (section : Section) → IsNoStepOf h change.event → section_of change.old h ≡ Some section →
    is_live change.new h ≡ true → IsUntouched change.old change.new h section

-- all this of one event; what speaks of stamps against others is said of lock removal
pub record KeepsPromises (config : Config) (change : Change) : Type 0 where
  pub ends : EndsAreNamed change
  pub losers : config.mode ≡ Tlr → LosesToLess change
  pub least : config.mode ≡ Tlr → LeastStays change
  pub line : config.mode ≡ Tlr → LineOfLeastMovesOn change.old
  pub stamps : StampsStay change
  pub release : ReleasesTakeEffect config.long change
  pub others : OthersAreUntouched change

-- what a section shows of memory: its new value in the lock word, else what it has stored, else what is committed
abbrev pub ShowsStoresOverMemory : ModelState → ℕ → Section → List Entry → Type 0
ShowsStoresOverMemory state h section stores =
    (place : ℕ) → place < length state.committed.bytes →
    slice_index (shown_in state h section).bytes place
    ≡ section_byte stores section.word section.new (byte_in state.committed.base state.committed.bytes)
    (state.committed.base + place)
