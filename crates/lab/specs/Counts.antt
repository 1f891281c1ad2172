-- what sections count for in the report
use Rattle.std.specs.Prelude.{ℕ, ◌≡◌, ◌==◌, List, sum_by, if◌then◌else◌}
use Rattle.chronicle.specs.Tally.{nothing, tally_of}
use Rattle.chronicle.specs.declared.tally.Tally.{Tally}
use Rattle.el_base.specs.Config.{IsInRange}
use Rattle.el_base.specs.declared.config.Config.{Config}
use Rattle.el_base.specs.declared.entries.Entry.{Entry}
use Rattle.el_base.specs.declared.events.Event.{Event}
use Rattle.el_base.specs.declared.outcomes.Cause.TheVariants.{Room, Lines, Long, Call, Mixed}
use Rattle.el_model.specs.Next.{entries_from}
use Rattle.el_model.specs.State.{begin}
use Rattle.elf_image.specs.Program.{Program}
use Rattle.lab.specs.Tries.{tries_from}
use Rattle.lab.specs.declared.tries.Ended.{Ended}
use Rattle.lab.specs.declared.tries.Ended.TheVariants.{Live, Committed, LostTo, RolledBack}
use Rattle.lab.specs.declared.tries.Try.{Try}

-- what the end of a section counts for
abbrev pub of_end : Ended → Tally
of_end Live = nothing
of_end (Committed at count) = record nothing { committed = 1; instr = count }
of_end (LostTo at ran winner line) = record nothing { conflict = 1 }
of_end (RolledBack at ran Room) = record nothing { room = 1 }
of_end (RolledBack at ran Lines) = record nothing { lines = 1 }
of_end (RolledBack at ran Long) = record nothing { long = 1 }
of_end (RolledBack at ran Call) = record nothing { call = 1 }
of_end (RolledBack at ran Mixed) = record nothing { mixed = 1 }

-- what a section counts for in the tally of a hart
abbrev pub of_section : ℕ → Try → Tally
of_section hart try =
    if try.hart.number == hart then record (of_end try.ended) { began = 1 } else nothing

-- one number of a hart's tally, summed over these sections
abbrev pub total_of : (Tally → ℕ) → ℕ → List Try → ℕ
total_of number hart tries = sum_by (λ try. number (of_section hart try)) tries

-- what sections tell of a hart is what its history tells
pub record TellTheSame (hart : ℕ) (tries : List Try) (entries : List Entry) : Type 0 where
  pub began : total_of (λ tally. tally.began) hart tries ≡ (tally_of hart entries).began
  pub committed : total_of (λ tally. tally.committed) hart tries ≡ (tally_of hart entries).committed
  pub instr : total_of (λ tally. tally.instr) hart tries ≡ (tally_of hart entries).instr
  pub conflict : total_of (λ tally. tally.conflict) hart tries ≡ (tally_of hart entries).conflict
  pub room : total_of (λ tally. tally.room) hart tries ≡ (tally_of hart entries).room
  pub lines : total_of (λ tally. tally.lines) hart tries ≡ (tally_of hart entries).lines
  pub long : total_of (λ tally. tally.long) hart tries ≡ (tally_of hart entries).long
  pub call : total_of (λ tally. tally.call) hart tries ≡ (tally_of hart entries).call
  pub mixed : total_of (λ tally. tally.mixed) hart tries ≡ (tally_of hart entries).mixed

-- the sections of any events from a program's start on are those that the report counts: each once
abbrev pub SectionsAreThoseOfTheReport : Type 0
SectionsAreThoseOfTheReport =
    (program : Program) (config : Config) (events : List Event) (hart : ℕ) → program.harts ≡ config.harts →
    IsInRange config → TellTheSame hart (tries_from (begin program config) 0 events)
    (entries_from (begin program config) events)
