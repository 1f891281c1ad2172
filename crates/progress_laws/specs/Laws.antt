-- where a machine can get on
use Rattle.std.specs.Prelude.{ℕ, ◌≡◌, ◌<◌, ◌≤◌, ◌↔◌, true, false, List, None, Some, length}
use Rattle.el_base.specs.Config.{IsInRange}
use Rattle.el_base.specs.declared.config.Config.{Config}
use Rattle.el_base.specs.declared.events.Event.{Event}
use Rattle.elf_image.specs.Program.{Program}
use Rattle.el_model.specs.Conflicts.{retains}
use Rattle.el_model.specs.Next.{after, is_over}
use Rattle.el_model.specs.Quiet.{has_stamps}
use Rattle.el_model.specs.State.{ModelState}
use Rattle.progress_laws.specs.Ready.{gets_on, ready_event}

-- the ready event is progress
abbrev pub ReadyEventGetsOn : Type 0
ReadyEventGetsOn = (state : ModelState) (event : Event) → ready_event state ≡ Some event → gets_on state event ≡ true

-- with at most eight harts there is none exactly where no event of these harts is progress
abbrev pub NoneIsReadyWhereNoneGetsOn : Type 0
NoneIsReadyWhereNoneGetsOn =
    (state : ModelState) → length state.harts ≤ 8 →
    (ready_event state ≡ None)
    ↔ ((event : Event) → event.hart.number < length state.harts → gets_on state event ≡ false)

-- in the modes without stamps no section ever retains a line: each request wins as it becomes the head of its line
abbrev pub NoSectionRetainsWithoutStamps : Type 0
NoSectionRetainsWithoutStamps =
    (program : Program) (config : Config) (events : List Event) → has_stamps config.mode ≡ false →
    (h line : ℕ) → retains (after program config events) h line ≡ false

-- in every mode no state is stuck: some event is progress exactly where some hart runs
abbrev pub NoStateIsStuck : Type 0
NoStateIsStuck =
    (program : Program) (config : Config) (events : List Event) → program.harts ≡ config.harts → IsInRange config →
    (ready_event (after program config events) ≡ None) ↔ (is_over (after program config events) ≡ true)
