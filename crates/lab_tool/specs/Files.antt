-- Which files a command changes.
use Rattle.std.specs.Prelude.{◌≡◌, ℕ, List, Option, None, Some}
use Rattle.std.specs.Option.{option_map}
use Rattle.el_io.specs.Shelf.{Contents, Holds, KeepsOthers}
use Rattle.lab_words.specs.declared.command.Command.{Command}
use Rattle.lab_words.specs.declared.command.Command.TheVariants.{Show, State, Locks, Lines, Page, Run, Info}
use Rattle.lab_words.specs.declared.command.RunCommand.{RunCommand}

-- the file that a run writes its trace to
abbrev pub trace_of_run : RunCommand → Option (List ℕ)
trace_of_run command = option_map (λ name. name.now) command.trace

-- the file that a command writes
abbrev pub written_by : Command → Option (List ℕ)
written_by (Show command) = None
written_by (State traced place) = None
written_by (Locks traced layout) = None
written_by (Lines traced layout) = None
written_by (Page traced file) = Some file.now
written_by (Run command) = trace_of_run command
written_by (Info trace) = None

-- every file is as it was, but for the one that is named
abbrev pub KeepsBut : Option (List ℕ) → Option Contents → Option Contents → Type 0
KeepsBut None before now = now ≡ before
KeepsBut (Some name) before now = KeepsOthers before now name

-- where a file is named, it has these bytes
abbrev pub HoldsNamed : Option (List ℕ) → Option Contents → List ℕ → Type 0
HoldsNamed None now bytes = Unit {0}
HoldsNamed (Some name) now bytes = Holds now name bytes

-- every file is as it was, but for at most one
pub record ChangesOneAtMost (before now : Option Contents) : Type 0 where
  pub file : Option (List ℕ)
  pub keeps : KeepsBut file before now
