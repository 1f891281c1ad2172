-- that a trace can record each outcome
use Rattle.std.specs.Prelude.{◌≡◌, All, List}
use Rattle.el_base.specs.Config.{IsInRange}
use Rattle.el_base.specs.Recordable.{IsRecordable}
use Rattle.el_base.specs.declared.config.Config.{Config}
use Rattle.el_base.specs.declared.events.Event.{Event}
use Rattle.el_model.specs.Next.{outcomes}
use Rattle.elf_image.specs.Program.{Program}

-- from a program with as many harts as its configuration has, where that is in range, whatever the events, each outcome
-- can be recorded
abbrev pub OutcomesCanBeRecorded : Type 0
OutcomesCanBeRecorded =
    (program : Program) (config : Config) (events : List Event) → program.harts ≡ config.harts → IsInRange config →
    All (IsRecordable config.harts config.long) (outcomes program config events)
