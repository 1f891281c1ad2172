-- a machine as contracts see it
use Rattle.std.specs.Prelude.{ℕ, ◌≡◌, ◌+◌, ◌-◌, ◌++◌, List, length, map}
use Rattle.chronicle.specs.Chronicle.{Chronicle, events}
use Rattle.chronicle.specs.Serial.{serial}
use Rattle.el_base.specs.declared.entries.Entry.{Entry}
use Rattle.el_base.specs.declared.events.Event.{Event}
use Rattle.el_base.specs.declared.config.Config.{Config}
use Rattle.el_model.specs.Next.{after, entries_from, outcomes}
use Rattle.el_model.specs.State.{ModelState}
use Rattle.elf_image.specs.Program.{Program}
use Rattle.rv_alu.specs.declared.span.Span.{Span}
use Rattle.rv_flat.specs.FlatState.{FlatState, start}
use Rattle.rv_flat.specs.Run.{run}

-- the program, the configuration, and the events made so far with their outcomes
pub record Story : Type 0 where
  pub program : Program
  pub config : Config
  pub entries : List Entry

-- the state that these events lead to
abbrev pub state_of : Story → ModelState
state_of story = after story.program story.config (events story.entries)

-- the state of one run of the program on plain shared memory, in the serial order of these events
abbrev pub committed : Story → FlatState
committed story = run (start story.program) (serial story.entries)

-- the addresses of memory
abbrev pub memory_of : Program → Span
memory_of program = record { base = program.base; end = program.base + length program.bytes }

-- how many more events may be made
abbrev pub left_of : Story → ℕ
left_of story = story.config.steps - length story.entries

-- the history: these events, with a place for each step
abbrev pub history_of : Story → Chronicle
history_of story = record { entries = story.entries; places = story.config.steps }

-- the story after further events
abbrev pub continued : Story → List Event → Story
continued story made = record story { entries = story.entries ++ entries_from (state_of story) made }

-- whatever was made, each outcome is the one that the definition gives, and what the program did is one
-- run of it on plain shared memory
pub record IsOneRun (story : Story) : Type 0 where
  pub outcomes : map (λ entry. entry.outcome) story.entries ≡ outcomes story.program story.config (events story.entries)
  pub committed : (state_of story).committed ≡ committed story
