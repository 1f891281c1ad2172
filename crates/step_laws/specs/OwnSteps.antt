-- a step as its own hart comes out of it
use Rattle.std.specs.Prelude.{ℕ, ◌≡◌, ◌+◌, ◌⊎◌, List, Option, None, Some}
use Rattle.residency.specs.Cache as caches
use Rattle.el_base.specs.LineAddr.{line_addr}
use Rattle.el_base.specs.declared.config.Config.{Config}
use Rattle.el_base.specs.declared.events.Event.{Event}
use Rattle.el_base.specs.declared.events.Kind.TheVariants as kinds
use Rattle.el_base.specs.declared.outcomes.Cause.{Cause}
use Rattle.el_base.specs.declared.outcomes.Outcome.{Outcome}
use Rattle.el_base.specs.declared.outcomes.Outcome.TheVariants as outcomes
use Rattle.el_base.specs.declared.outcomes.Outcome.TheVariants.{Idle, Stalled, Missed, Ran, Began, Buffered, Committed}
use Rattle.el_base.specs.declared.outcomes.Outcome.TheVariants.{RolledBack}
use Rattle.elf_image.specs.Program.{Program}
use Rattle.el_model.specs.Deed.{Arms, Begins, Buffers, Commits, Continues, Deed, DoesWhere, Elides, LetsGo, MayCommit}
use Rattle.el_model.specs.Deed.{Misses, MustRollBack, Rests}
use Rattle.el_model.specs.Deed.{RollsBack, Runs, Waits}
use Rattle.el_model.specs.Deed.{committed_after, hart_after, outcome_of}
use Rattle.el_model.specs.InSection.{committed_hart}
use Rattle.el_model.specs.Next.{after, next}
use Rattle.el_model.specs.RollBack.{rolled_back}
use Rattle.el_model.specs.State.{Armed, ModelState, Section, cache_of, hart_of, section_of}
use Rattle.el_model.specs.Upcoming.{Swap, Touch}
use Rattle.rv_flat.specs.FlatState.{view_of}
use Rattle.rv_flat.specs.Run.{alone}

-- a hart does this deed where its rule allows it, and hart, outcome and what is committed become what the deed says
pub record Does (state : ModelState) (event : Event) (deed : Deed) : Type 0 where
  pub where_it : DoesWhere state event.hart.number deed
  pub outcome : (next state event).outcome ≡ outcome_of deed
  pub committed : (next state event).state.committed ≡ committed_after state event.hart.number deed
  pub hart : hart_of (next state event).state event.hart.number ≡ hart_after state event.hart.number deed
      (hart_of state event.hart.number)

-- in every state that can be reached, the hart of a step does a deed
abbrev pub OwnDeeds : Type 0
OwnDeeds =
    (program : Program) (config : Config) (events : List Event) (event : Event) → event.kind ≡ kinds.Step →
    (deed : Deed) × Does (after program config events) event deed

-- which deed an outcome of a step tells of; the others are none of a step
abbrev pub TellsOf : ModelState → Event → Outcome → Type 0
TellsOf state event Idle = Does state event Rests
TellsOf state event Stalled = Does state event Waits
TellsOf state event (Missed line need) =
    (number : ℕ) × (line ≡ line_addr number) × Does state event (Misses number need)
TellsOf state event Ran = (touch : Option Touch) × Does state event (Runs touch)
TellsOf state event Began =
    ((swap : Swap) × Does state event (Begins swap))
    ⊎ ((armed : Armed) × (swap : Swap) × Does state event (Elides armed swap))
TellsOf state event Buffered =
    ((section : Section) × (touch : Option Touch) × Does state event (Buffers section touch))
    ⊎ ((armed : Armed) × Does state event (Continues armed))
TellsOf state event (Committed count) =
    (section : Section) × (count ≡ section.count + 1) × Does state event (Commits section)
TellsOf state event (RolledBack cause) = (section : Section) × Does state event (RollsBack section cause)
TellsOf state event outcomes.Armed = (word : ℕ) × Does state event (Arms word)
TellsOf state event (outcomes.LetGo count) = (armed : Armed) × (count ≡ armed.count) × Does state event (LetsGo armed)
TellsOf state event _ = ⊥

-- in every state that can be reached, the outcome of a step tells which deed its hart did
abbrev pub OwnOutcomes : Type 0
OwnOutcomes =
    (program : Program) (config : Config) (events : List Event) (event : Event) → event.kind ≡ kinds.Step →
    TellsOf (after program config events) event (next (after program config events) event).outcome

-- a hart's section commits: so many instructions take effect at once, and the hart is out of the section
pub record CommitsSection (state : ModelState) (event : Event) (count : ℕ) : Type 0 where
  pub step : event.kind ≡ kinds.Step
  pub section : Section
  pub live : section_of state event.hart.number ≡ Some section
  pub may : MayCommit state event.hart.number section
  pub count_is : count ≡ section.count + 1
  pub committed : (next state event).state.committed ≡ alone state.committed event.hart.number count
  pub cache : cache_of (next state event).state event.hart.number ≡ caches.committed (cache_of state event.hart.number)
  pub hart : hart_of (next state event).state event.hart.number
      ≡ committed_hart (view_of state.committed event.hart.number).pc (hart_of state event.hart.number)

-- in every state that can be reached, so does an event that comes out as committed
abbrev pub OwnCommits : Type 0
OwnCommits =
    (program : Program) (config : Config) (events : List Event) (event : Event) (count : ℕ) →
    (next (after program config events) event).outcome ≡ Committed count →
    CommitsSection (after program config events) event count

-- a hart rolls its section back itself: nothing takes effect, and no bits are left
pub record RollsSectionBack (state : ModelState) (event : Event) (cause : Cause) : Type 0 where
  pub step : event.kind ≡ kinds.Step
  pub section : Section
  pub live : section_of state event.hart.number ≡ Some section
  pub must : MustRollBack state event.hart.number section cause
  pub committed : (next state event).state.committed ≡ state.committed
  pub cache : cache_of (next state event).state event.hart.number ≡ caches.cleared (cache_of state event.hart.number)
  pub hart : hart_of (next state event).state event.hart.number
      ≡ rolled_back cause (view_of state.committed event.hart.number).pc
      (record (hart_of state event.hart.number) { held_line = None })

-- in every state that can be reached, so does an event that comes out as rolled back
abbrev pub OwnRollbacks : Type 0
OwnRollbacks =
    (program : Program) (config : Config) (events : List Event) (event : Event) (cause : Cause) →
    (next (after program config events) event).outcome ≡ RolledBack cause →
    RollsSectionBack (after program config events) event cause
