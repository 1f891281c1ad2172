-- what holds of the private runs of live sections
use Rattle.std.specs.Prelude.{ℕ, ◌≡◌, ◌≢◌, ◌+◌, true, false, List, [], ◌∷◌, Some, is_some}
use Rattle.bus_order.specs.Order.{Request}
use Rattle.residency.specs.Residency.{Way}
use Rattle.el_base.specs.declared.config.Config.{Config}
use Rattle.el_base.specs.declared.events.Event.{Event}
use Rattle.el_base.specs.declared.events.Kind.TheVariants as kinds
use Rattle.el_base.specs.declared.outcomes.Outcome.TheVariants.{Committed}
use Rattle.elf_image.specs.Loaded.{program_of}
use Rattle.elf_image.specs.Program.{Program}
use Rattle.el_model.specs.Armed.{is_freed, let_go}
use Rattle.el_model.specs.InSection.{shown_in}
use Rattle.el_model.specs.Next.{after, next, state_after}
use Rattle.el_model.specs.State.{Armed, ModelState, Section, armed_of, cache_of, has_request, hart_of, is_live}
use Rattle.el_model.specs.State.{section_of}
use Rattle.el_model.specs.Upcoming.{is_release}
use Rattle.rv_flat.specs.FlatState.{FlatState}
use Rattle.rv_flat.specs.Memory.{AreBytes}
use Rattle.rv_flat.specs.Run.{alone}
use Rattle.run_laws.specs.PrivateRun.{IsArmedRun, IsChangeBeside, IsCoveredRun, KeepsAllButAView, KeepsMemory}
use Rattle.run_laws.specs.PrivateRun.{ShowsItsOwn, ShowsTheSame}

-- a covered run depends on what its bits cover alone: after a change beside its hart it is
-- covered as before, and shows the same
abbrev pub CoveredRunsSurvive : Type 0
CoveredRunsSurvive =
    (h : ℕ) (cache : List (List Way)) (section : Section) (old new : FlatState) → IsCoveredRun old h cache section →
    IsChangeBeside h cache old new → IsCoveredRun new h cache section × ShowsTheSame h section.count old new

-- so does an armed run
abbrev pub ArmedRunsSurvive : Type 0
ArmedRunsSurvive =
    (h : ℕ) (cache : List (List Way)) (armed : Armed) (old new : FlatState) → IsArmedRun old h cache armed →
    IsChangeBeside h cache old new → IsArmedRun new h cache armed × ShowsTheSame h armed.count old new

-- an armed run leaves all but the view of its hart as it was: it stores nothing, and so
-- ends no other hart's reservation
abbrev pub ArmedRunsKeepAllButAView : Type 0
ArmedRunsKeepAllButAView =
    (committed : FlatState) (h : ℕ) (cache : List (List Way)) (armed : Armed) → IsArmedRun committed h cache armed →
    KeepsAllButAView h committed (alone committed h armed.count)

-- a covered run shows its new value in the lock word, and what is committed outside of that word and
-- of the lines with its write bit
abbrev pub CoveredRunsShowTheirOwn : Type 0
CoveredRunsShowTheirOwn =
    (committed : FlatState) (h : ℕ) (cache : List (List Way)) (section : Section) →
    IsCoveredRun committed h cache section → ShowsItsOwn committed h cache section

-- from a program whose memory is bytes, in every state that can be reached, the private run
-- of each live section is covered
abbrev pub LiveSectionsRunCovered : Type 0
LiveSectionsRunCovered =
    (program : Program) (config : Config) (events : List Event) (h : ℕ) (section : Section) → AreBytes program.bytes →
    section_of (after program config events) h ≡ Some section →
    IsCoveredRun (after program config events).committed h (cache_of (after program config events) h) section

-- the same of the private run of each armed section
abbrev pub ArmedSectionsRunCovered : Type 0
ArmedSectionsRunCovered =
    (program : Program) (config : Config) (events : List Event) (h : ℕ) (armed : Armed) → AreBytes program.bytes →
    armed_of (after program config events) h ≡ Some armed →
    IsArmedRun (after program config events).committed h (cache_of (after program config events) h) armed

-- as a head lets armed sections go, nothing changes beside a hart that it lets not go
abbrev pub LettingGoChangesNothingBeside : Type 0
LettingGoChangesNothingBeside =
    (program : Program) (config : Config) (events : List Event) (head : Request) (h : ℕ) → AreBytes program.bytes →
    is_freed head h (hart_of (after program config events) h) ≡ false →
    IsChangeBeside h (cache_of (after program config events) h) (after program config events).committed
    (let_go (after program config events) head).committed

-- and memory is as it was
abbrev pub LettingGoLeavesMemory : Type 0
LettingGoLeavesMemory =
    (program : Program) (config : Config) (events : List Event) (head : Request) → AreBytes program.bytes →
    KeepsMemory (after program config events).committed (let_go (after program config events) head).committed

-- an event of another hart changes what is committed beside each hart that it lets not go: nothing on a line with one
-- of its bits, and of its view nothing but the reservation
abbrev pub OtherHartsChangeNothingCovered : Type 0
OtherHartsChangeNothingCovered =
    (program : Program) (config : Config) (events : List Event) (event : Event) (h : ℕ) → AreBytes program.bytes →
    event.hart.number ≢ h →
    (is_some (armed_of (after program config events) h) ≡ true →
    is_some (armed_of (next (after program config events) event).state h) ≡ true) →
    IsChangeBeside h (cache_of (after program config events) h) (after program config events).committed
    (next (after program config events) event).state.committed

-- what another hart's event leaves of a section that is live after it: the section as it was, which shows the same
pub record IsUntouched (state new : ModelState) (h : ℕ) (section : Section) : Type 0 where
  pub same : section_of new h ≡ Some section
  pub shows : ShowsTheSame h section.count state.committed new.committed

-- an event of another hart leaves what a section shows which is live after it
abbrev pub OtherHartsChangeNothingShown : Type 0
OtherHartsChangeNothingShown =
    (program : Program) (config : Config) (events : List Event) (event : Event) (h : ℕ) (section : Section) →
    AreBytes program.bytes → event.hart.number ≢ h → section_of (after program config events) h ≡ Some section →
    is_live (next (after program config events) event).state h ≡ true →
    IsUntouched (after program config events) (next (after program config events) event).state h section

-- none of these events is a hart's own
abbrev pub AreOfOthers : ℕ → List Event → Type 0
AreOfOthers h [] = Unit {0}
AreOfOthers h (event ∷ events) = (event.hart.number ≢ h) × AreOfOthers h events

-- the same of any events of other harts, one after another
abbrev pub SectionsSurviveOtherHarts : Type 0
SectionsSurviveOtherHarts =
    (program : Program) (config : Config) (events others : List Event) (h : ℕ) (section : Section) →
    AreBytes program.bytes → AreOfOthers h others → section_of (after program config events) h ≡ Some section →
    is_live (state_after (after program config events) others) h ≡ true →
    IsUntouched (after program config events) (state_after (after program config events) others) h section

-- a section commits: all its instructions take effect at once, the release with them
pub record TakesEffect (state : ModelState) (event : Event) (section : Section) : Type 0 where
  pub outcome : (next state event).outcome ≡ Committed (section.count + 1)
  pub committed : (next state event).state.committed ≡ alone state.committed event.hart.number (section.count + 1)

-- a step of a hart with a live section that is not at its longest, which waits for no request
-- and comes to its release, commits
abbrev pub ReleasesCommit : Type 0
ReleasesCommit =
    (program : Program) (config : Config) (events : List Event) (event : Event) (section : Section) →
    event.kind ≡ kinds.Step → section_of (after program config events) event.hart.number ≡ Some section →
    has_request (after program config events) event.hart.number ≡ false → section.count ≢ config.long →
    is_release (shown_in (after program config events) event.hart.number section) event.hart.number section.word
    section.old ≡ true → TakesEffect (after program config events) event section

-- where a file is bytes, so is the memory of the program that it loads
abbrev pub LoadedProgramsAreBytes : Type 0
LoadedProgramsAreBytes = (file : List ℕ) (harts : ℕ) → AreBytes file → AreBytes (program_of file harts).bytes
