-- which sections are lost, and what ends a section
use Rattle.std.specs.Prelude.{ℕ, ◌≡◌, ◌≢◌, ◌<◌, ◌⊎◌, true, false, List, None, Some}
use Rattle.el_base.specs.Config.{IsInRange}
use Rattle.el_base.specs.declared.config.Config.{Config}
use Rattle.el_base.specs.declared.events.Event.{Event}
use Rattle.el_base.specs.declared.events.Kind.TheVariants as kinds
use Rattle.elf_image.specs.Program.{Program}
use Rattle.el_base.specs.Winners.{winner_over}
use Rattle.el_model.specs.Next.{after, next}
use Rattle.el_model.specs.State.{ModelState, Section, is_live, section_of}
use Rattle.section_laws.specs.Sections.{is_committed, is_rolled_back}

-- a hart loses its live section to a hart that a machine may have, by an event that is no step
pub record LosesItsSection (state : ModelState) (event : Event) (g winner : ℕ) : Type 0 where
  pub section : Section
  pub live : section_of state g ≡ Some section
  pub of_bus : event.kind ≢ kinds.Step
  pub over : section_of (next state event).state g ≡ None
  pub exists : winner < 8

-- a hart that an event names among its losers loses its live section
abbrev pub OnlyLiveSectionsLose : Type 0
OnlyLiveSectionsLose =
    (program : Program) (config : Config) (events : List Event) (event : Event) (g winner : ℕ) →
    program.harts ≡ config.harts → IsInRange config → winner_over (next (after program config events) event).outcome g
    ≡ Some winner → LosesItsSection (after program config events) event g winner

-- a hart ends its section itself: by its step the section commits or is rolled back
pub record EndsItself (state : ModelState) (event : Event) (h : ℕ) : Type 0 where
  pub own : event.hart.number ≡ h
  pub step : event.kind ≡ kinds.Step
  pub how : (is_committed (next state event).outcome ≡ true) ⊎ (is_rolled_back (next state event).outcome ≡ true)

-- an event names a winner over a hart
pub record IsBeaten (state : ModelState) (event : Event) (h : ℕ) : Type 0 where
  pub winner : ℕ
  pub names : winner_over (next state event).outcome h ≡ Some winner

-- a section that ends does so by its hart's own commit or rollback, or is lost
abbrev pub WhatEndsASection : Type 0
WhatEndsASection =
    (program : Program) (config : Config) (events : List Event) (event : Event) (h : ℕ) → program.harts ≡ config.harts →
    IsInRange config → is_live (after program config events) h ≡ true →
    is_live (next (after program config events) event).state h ≡ false →
    EndsItself (after program config events) event h ⊎ IsBeaten (after program config events) event h
