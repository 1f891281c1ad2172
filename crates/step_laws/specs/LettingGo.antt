-- what an event of the bus leaves of what is committed and of armed sections: those that it lets go
-- end, and all else of both stays
use Rattle.std.specs.Prelude.{ℕ, ◌≡◌, ◌≢◌, ◌≤◌, List, None, Some}
use Rattle.el_base.specs.Config.{IsInRange}
use Rattle.el_base.specs.Freed.{count_in}
use Rattle.el_base.specs.LetGo.{freed_of_outcome}
use Rattle.el_base.specs.declared.config.Config.{Config}
use Rattle.el_base.specs.declared.events.Event.{Event}
use Rattle.el_base.specs.declared.events.Kind.TheVariants as kinds
use Rattle.el_base.specs.declared.freed.Freed.{Freed}
use Rattle.elf_image.specs.Program.{Program}
use Rattle.el_model.specs.Next.{after, next}
use Rattle.el_model.specs.State.{Armed, ModelState, armed_of, hart_of}
use Rattle.rv_flat.specs.FlatState.{view_of}
use Rattle.rv_flat.specs.Memory.{AreBytes}
use Rattle.rv_flat.specs.Run.{alone}
use Rattle.run_laws.specs.PrivateRun.{KeepsAllButViews}

-- the armed section of a hart, of so many instructions, is let go: it is over, the hart's view is the one that its
-- private run has come to, and the pc of its LR, where the committed view stood, is kept
pub record IsLetGo (state new : ModelState) (g count : ℕ) : Type 0 where
  pub armed : Armed
  pub was : armed_of state g ≡ Some armed
  pub count_is : armed.count ≡ count
  pub over : armed_of new g ≡ None
  pub view : view_of new.committed g ≡ view_of (alone state.committed g count) g
  pub last : (hart_of new g).last_lr ≡ Some (view_of state.committed g).pc

-- the harts that are let go, and what stays: memory, code, output and how many harts there are, and of each other hart
-- its view with its reservation, its armed section and the pc of its last LR
pub record LetsHartsGo (state new : ModelState) (freed : Freed) : Type 0 where
  pub memory : KeepsAllButViews state.committed new.committed
  pub stays_view : (g : ℕ) → count_in freed g ≡ 0 → view_of new.committed g ≡ view_of state.committed g
  pub stays_armed : (g : ℕ) → count_in freed g ≡ 0 → armed_of new g ≡ armed_of state g
  pub stays_last : (g : ℕ) → count_in freed g ≡ 0 → (hart_of new g).last_lr ≡ (hart_of state g).last_lr
  pub lets_go : (g : ℕ) → 1 ≤ count_in freed g → IsLetGo state new g (count_in freed g)

-- from a program whose memory is bytes, with as many harts as its configuration has, where that is in range, an event
-- that is no step lets go the harts that its outcome tells, and leaves all else of that
abbrev pub BusEventsLetHartsGo : Type 0
BusEventsLetHartsGo =
    (program : Program) (config : Config) (events : List Event) (event : Event) → AreBytes program.bytes →
    program.harts ≡ config.harts → IsInRange config → event.kind ≢ kinds.Step →
    LetsHartsGo (after program config events) (next (after program config events) event).state
    (freed_of_outcome (next (after program config events) event).outcome)
