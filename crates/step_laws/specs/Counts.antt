-- how long watches and sections are
use Rattle.std.specs.Prelude.{ℕ, ◌≡◌, ◌≤◌, ◌<◌, List, Some}
use Rattle.el_base.specs.Config.{IsInRange}
use Rattle.el_base.specs.declared.config.Config.{Config}
use Rattle.el_base.specs.declared.events.Event.{Event}
use Rattle.elf_image.specs.Program.{Program}
use Rattle.el_model.specs.Next.{after}
use Rattle.el_model.specs.State.{Section, hart_of, section_of}
use Rattle.pair_table.specs.Predictor.{Watch}

-- a watch has counted its candidate at least, and fewer instructions than a section may have
pub record IsWatchShort (long : ℕ) (watch : Watch) : Type 0 where
  pub some : 1 ≤ watch.count
  pub fewer : watch.count < long

-- a section has run its acquire at least, and no more instructions than it may have
pub record IsSectionShort (long : ℕ) (section : Section) : Type 0 where
  pub some : 1 ≤ section.count
  pub no_more : section.count ≤ long

-- with a configuration in range, each watch is short in every state that can be reached
abbrev pub WatchesAreShort : Type 0
WatchesAreShort =
    (program : Program) (config : Config) (events : List Event) (h : ℕ) (watch : Watch) → IsInRange config →
    (hart_of (after program config events) h).predictor.watch ≡ Some watch → IsWatchShort config.long watch

-- and so is each live section
abbrev pub SectionsAreShort : Type 0
SectionsAreShort =
    (program : Program) (config : Config) (events : List Event) (h : ℕ) (section : Section) → IsInRange config →
    section_of (after program config events) h ≡ Some section → IsSectionShort config.long section
