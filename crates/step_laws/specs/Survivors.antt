-- what an event that is no step of a section's own hart leaves of the section, where it is live before and after
use Rattle.std.specs.Prelude.{ℕ, ◌≡◌, ◌≢◌, true, List, Some}
use Rattle.residency.specs.Cache.{read_bit, write_bit}
use Rattle.residency.specs.Residency.{Way}
use Rattle.el_base.specs.declared.config.Config.{Config}
use Rattle.el_base.specs.declared.events.Event.{Event}
use Rattle.el_base.specs.declared.events.Kind.TheVariants as kinds
use Rattle.elf_image.specs.Program.{Program}
use Rattle.el_model.specs.Next.{after, next}
use Rattle.el_model.specs.State.{ModelState, Section, cache_of, is_live, section_of}
use Rattle.rv_flat.specs.Memory.{AreBytes}
use Rattle.run_laws.specs.PrivateRun.{IsChangeBeside, IsCoveredRun, ShowsTheSame}

-- an event is no step of a hart: it is another hart's, or one of the bus
abbrev pub IsNoStepOf : ℕ → Event → Type 0
IsNoStepOf g event = event.kind ≡ kinds.Step → event.hart.number ≢ g

-- each bit of a cache is still there
pub record HasItsBits (old new : List (List Way)) : Type 0 where
  pub read : (line : ℕ) → read_bit old line ≡ true → read_bit new line ≡ true
  pub written : (line : ℕ) → write_bit old line ≡ true → write_bit new line ≡ true

-- the section is the same one, with every bit that it had
pub record KeepsSection (state new : ModelState) (g : ℕ) (section : Section) : Type 0 where
  pub same : section_of new g ≡ Some section
  pub bits : HasItsBits (cache_of state g) (cache_of new g)

-- a section that is live after such an event is the one from before it, with every bit that it had
abbrev pub SurvivorsKeepBits : Type 0
SurvivorsKeepBits =
    (program : Program) (config : Config) (events : List Event) (event : Event) (g : ℕ) (section : Section) →
    IsNoStepOf g event → section_of (after program config events) g ≡ Some section →
    is_live (next (after program config events) event).state g ≡ true →
    KeepsSection (after program config events) (next (after program config events) event).state g section

-- and what it shows is the same: its private run is covered before and after, and what is committed
-- has changed beside its hart alone
pub record Survives (state new : ModelState) (g : ℕ) (section : Section) : Type 0 where
  pub keeps : KeepsSection state new g section
  pub covered : IsCoveredRun state.committed g (cache_of state g) section
  pub covered_after : IsCoveredRun new.committed g (cache_of new g) section
  pub change : IsChangeBeside g (cache_of state g) state.committed new.committed
  pub shows : ShowsTheSame g section.count state.committed new.committed

-- a section that is live after such an event survives it so, from a program whose memory is bytes
abbrev pub SurvivorsKeepWhatTheyShow : Type 0
SurvivorsKeepWhatTheyShow =
    (program : Program) (config : Config) (events : List Event) (event : Event) (g : ℕ) (section : Section) →
    AreBytes program.bytes → IsNoStepOf g event → section_of (after program config events) g ≡ Some section →
    is_live (next (after program config events) event).state g ≡ true →
    Survives (after program config events) (next (after program config events) event).state g section
