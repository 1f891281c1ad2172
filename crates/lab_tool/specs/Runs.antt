-- The runs that commands read, follow and make.
use Rattle.std.specs.Prelude.{◌≡◌, ℕ, List, [], Option, take}
use Rattle.el_base.specs.declared.config.Config.{Config}
use Rattle.el_base.specs.declared.events.Event.{Event}
use Rattle.el_io.specs.Shelf.{Contents, Holds}
use Rattle.elf_image.specs.Loaded.{program_of}
use Rattle.elf_image.specs.Program.{Program}
use Rattle.lab.specs.Lines.{facts_from}
use Rattle.lab.specs.Releases.{releases_of, takes_of}
use Rattle.lab.specs.Swaps.{swaps_from}
use Rattle.lab.specs.Tries.{tries_from}
use Rattle.lab.specs.declared.tries.Try.{Try}
use Rattle.lab_run.specs.Drawn.{MakesDrawn}
use Rattle.lab_words.specs.declared.command.Schedule.{Schedule}
use Rattle.lab_words.specs.declared.command.Schedule.TheVariants.{Random, Order}
use Rattle.lab_words.specs.declared.command.Traced.{Traced}
use Rattle.machine.specs.Story.{Story, continued, left_of, state_of}
use Rattle.trace_file.specs.Spelling.{IsTrace, listed, spelling}
use Rattle.lab_tool.specs.declared.files.Recorded.{Recorded}
use Rattle.lab_tool.specs.declared.tables.Followed.{Followed}

-- the story of a program under a configuration, before its first event
abbrev pub first_story : Program → Config → Story
first_story program config = record { program = program; config = config; entries = [] }

-- a machine before its first event and the trace of a run of it are those that these files hold
pub record AreOfFiles (image trace : List ℕ) (run : Recorded) : Type 0 where
  pub is_trace : IsTrace run.trace.config run.trace.events (listed run.trace.recorded)
  pub spelled : trace ≡ spelling run.trace.config run.trace.events (listed run.trace.recorded)
  pub machine : run.machine ≡ first_story (program_of image run.trace.config.harts) run.trace.config
  pub loaded : run.image ≡ program_of image run.trace.config.harts

-- and the files are those that the words name
pub record AreNamed (told : Option Contents) (traced : Traced) (run : Recorded) : Type 0 where
  pub image : List ℕ
  pub trace : List ℕ
  pub image_file : Holds told traced.image.now image
  pub trace_file : Holds told traced.trace.now trace
  pub are : AreOfFiles image trace run

-- the sections of a run
abbrev pub tries_of : Recorded → List Try
tries_of run = tries_from (state_of run.machine) 0 run.trace.events

-- what a run came to by the events of its trace: its machine, its sections by whether they take a lock or give it back,
-- the swaps that ran plainly, and the facts on its lines
pub record IsFollowed (run : Recorded) (followed : Followed) : Type 0 where
  pub machine : followed.machine ≡ continued run.machine run.trace.events
  pub swaps : followed.swaps.items ≡ swaps_from (state_of run.machine) 0 run.trace.events
  pub facts : followed.facts.items ≡ facts_from (state_of run.machine) 0 run.trace.events
  pub takes : followed.sections.takes.items ≡ takes_of followed.swaps.items (tries_of run)
  pub releases : followed.sections.releases.items ≡ releases_of followed.swaps.items (tries_of run)

-- a machine has gone on by a schedule, and by nothing else: by events that its seed draws, or by the
-- listed ones as far as steps are left
abbrev pub GoesBy : Schedule → List Event → Story → Story → Type 0
GoesBy (Random seed) events before later = MakesDrawn seed before later
GoesBy (Order file) events before later = later ≡ continued before (take (left_of before) events)
