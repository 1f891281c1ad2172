-- what the words of a command line ask for
use Rattle.std.specs.Prelude.{ℕ, Bool, true, false, not, ◌&&◌, ◌||◌, nat_le, List, [], ◌∷◌, String, string_bytes, map}
use Rattle.std.specs.Prelude.{codes, bytes_eq, is_some}
use Rattle.std.specs.Prelude.{unwrap_or, Option, None, Some, if◌then◌else◌}
use Rattle.std.specs.List.{list_any}
use Rattle.std.specs.Option.{option_map}
use Rattle.std.specs.Global.{Global}
use Rattle.el_base.specs.Modes.{mode_of}
use Rattle.el_base.specs.declared.config.Mode.{Mode}
use Rattle.command_line.specs.Fields.{Field, Form, ◌>>=◌, fields_of, has_field, value_in}
use Rattle.command_line.specs.Numbers.{number_of}
use Rattle.command_line.specs.declared.command.TheConstants.{MAX_TURNS}
use Rattle.command_line.specs.declared.command.Command.{Command}
use Rattle.command_line.specs.declared.command.Command.TheVariants as commands
use Rattle.command_line.specs.declared.command.RunCommand.{RunCommand}
use Rattle.command_line.specs.declared.command.ReplayCommand.{ReplayCommand}
use Rattle.command_line.specs.declared.command.LookCommand.{LookCommand}
use Rattle.command_line.specs.declared.command.FindCommand.{FindCommand}
use Rattle.workload.specs.declared.work.Work.{Work}
use Rattle.workload.specs.declared.work.Work.TheVariants.{Counter, Bank, Buckets, Locks, Overflow, Pairs}

-- an image to run, with what was given of the options
pub record RunJob : Type 0 where
  pub image : List ℕ
  pub mode : Option Mode
  pub harts : Option ℕ
  pub sets : Option ℕ
  pub ways : Option ℕ
  pub lines : Option ℕ
  pub long : Option ℕ
  pub steps : Option ℕ
  pub threads : Option ℕ
  pub trace : Option (List ℕ)
  pub cert : Option (List ℕ)
  pub times : Bool

-- a trace to make again on its image: `written` is the file that the followed run is to be written to
pub record ReplayJob : Type 0 where
  pub image : List ℕ
  pub trace : List ℕ
  pub written : Option (List ℕ)
  pub times : Bool

-- a place of a trace to be shown: this one, and then so many back
pub record LookJob : Type 0 where
  pub image : List ℕ
  pub trace : List ℕ
  pub place : ℕ
  pub back : ℕ

-- a hart and a pc to be found in a trace
pub record FindJob : Type 0 where
  pub image : List ℕ
  pub trace : List ℕ
  pub hart : ℕ
  pub pc : ℕ

-- to run an image, to make the events of a trace again on its image, to show a place of a trace, to find where in a
-- trace a hart comes to a pc, to judge a certificate of a run of its image, or to write an image of a kind and a number
pub data Job : Type 0 where
  Run : (job : RunJob) → Job
  Replay : (job : ReplayJob) → Job
  Look : (job : LookJob) → Job
  Find : (job : FindJob) → Job
  Check : (image certificate : List ℕ) → Job
  Gen : (kind : Work) → (number : ℕ) → (file : List ℕ) → Job

-- the bytes of each word
abbrev pub texts : List (String Global) → List (List ℕ)
texts words = map string_bytes words

-- what is given, if anything is: its word has this meaning
abbrev pub optional : {A : Type 0} → (List ℕ → Option A) → Option (List ℕ) → Option (Option A)
optional means None = Some None
optional means (Some word) = option_map (λ value. Some value) (means word)

-- the number of a word that may be the turns of each driver
abbrev pub in_turns : ℕ → Option ℕ
in_turns number = if nat_le 1 number && nat_le number MAX_TURNS then Some number else None

abbrev pub turns_of : List ℕ → Option ℕ
turns_of word = number_of word >>= in_turns

-- drivers are given only beside a trace, which tells what they did
abbrev pub is_traced : RunJob → Bool
is_traced job = not (is_some job.threads) || is_some job.trace

-- no file has two contents
abbrev pub are_apart : Option (List ℕ) → Option (List ℕ) → Bool
are_apart (Some one) (Some other) = not (bytes_eq one other)
are_apart (Some one) None = true
are_apart None other = true

-- a run that can be asked for
abbrev pub run_asked : RunJob → Option Job
run_asked job = if is_traced job && are_apart job.trace job.cert then Some (Run job) else None

-- `IMAGE [--mode plain|sle|tlr] [--harts N] [--sets N] [--ways N] [--lines N] [--long N] [--steps N] [--threads TURNS]
-- [--trace FILE] [--cert FILE] [--times]`
abbrev pub run_form : Form
run_form = record {
  positionals = codes "image" ∷ [];
  options =
      codes "mode" ∷ codes "harts" ∷ codes "sets" ∷ codes "ways" ∷ codes "lines" ∷ codes "long" ∷ codes "steps" ∷
      codes "threads" ∷ codes "trace" ∷ codes "cert" ∷ [];
  flags = codes "times" ∷ [];
}

abbrev pub run_in : List Field → Option Job
run_in fields = do
  image ← value_in fields (codes "image")
  mode ← optional mode_of (value_in fields (codes "mode"))
  harts ← optional number_of (value_in fields (codes "harts"))
  sets ← optional number_of (value_in fields (codes "sets"))
  ways ← optional number_of (value_in fields (codes "ways"))
  lines ← optional number_of (value_in fields (codes "lines"))
  long ← optional number_of (value_in fields (codes "long"))
  steps ← optional number_of (value_in fields (codes "steps"))
  threads ← optional turns_of (value_in fields (codes "threads"))
  run_asked (record {
    image = image;
    mode = mode;
    harts = harts;
    sets = sets;
    ways = ways;
    lines = lines;
    long = long;
    steps = steps;
    threads = threads;
    trace = value_in fields (codes "trace");
    cert = value_in fields (codes "cert");
    times = has_field fields (codes "times");
  })

abbrev pub run_of : List (List ℕ) → Option Job
run_of words = fields_of run_form words >>= run_in

-- `IMAGE TRACE [--trace FILE] [--times]`; beside the option the trace to make again is named `recorded`
abbrev pub replay_form : Form
replay_form = record {
  positionals = codes "image" ∷ codes "recorded" ∷ [];
  options = codes "trace" ∷ [];
  flags = codes "times" ∷ [];
}

abbrev pub replay_in : List Field → Option Job
replay_in fields = do
  image ← value_in fields (codes "image")
  trace ← value_in fields (codes "recorded")
  Some (Replay (record {
    image = image;
    trace = trace;
    written = value_in fields (codes "trace");
    times = has_field fields (codes "times");
  }))

abbrev pub replay_of : List (List ℕ) → Option Job
replay_of words = fields_of replay_form words >>= replay_in

-- `IMAGE TRACE PLACE [--back N]`, where N is 0 if it is not given
abbrev pub look_form : Form
look_form = record {
  positionals = codes "image" ∷ codes "trace" ∷ codes "place" ∷ [];
  options = codes "back" ∷ [];
  flags = [];
}

abbrev pub look_in : List Field → Option Job
look_in fields = do
  image ← value_in fields (codes "image")
  trace ← value_in fields (codes "trace")
  place ← value_in fields (codes "place") >>= number_of
  back ← optional number_of (value_in fields (codes "back"))
  Some (Look (record { image = image; trace = trace; place = place; back = unwrap_or back 0 }))

abbrev pub looking_of : List (List ℕ) → Option Job
looking_of words = fields_of look_form words >>= look_in

-- `IMAGE TRACE HART PC`
abbrev pub find_form : Form
find_form = record {
  positionals = codes "image" ∷ codes "trace" ∷ codes "hart" ∷ codes "pc" ∷ [];
  options = [];
  flags = [];
}

abbrev pub find_in : List Field → Option Job
find_in fields = do
  image ← value_in fields (codes "image")
  trace ← value_in fields (codes "trace")
  hart ← value_in fields (codes "hart") >>= number_of
  pc ← value_in fields (codes "pc") >>= number_of
  Some (Find (record { image = image; trace = trace; hart = hart; pc = pc }))

abbrev pub finding_of : List (List ℕ) → Option Job
finding_of words = fields_of find_form words >>= find_in

-- `IMAGE CERT`
abbrev pub check_form : Form
check_form = record { positionals = codes "image" ∷ codes "cert" ∷ []; options = []; flags = [] }

abbrev pub check_in : List Field → Option Job
check_in fields = do
  image ← value_in fields (codes "image")
  certificate ← value_in fields (codes "cert")
  Some (Check image certificate)

abbrev pub check_of : List (List ℕ) → Option Job
check_of words = fields_of check_form words >>= check_in

-- `KIND NUMBER FILE`
abbrev pub gen_form : Form
gen_form = record { positionals = codes "kind" ∷ codes "number" ∷ codes "file" ∷ []; options = []; flags = [] }

abbrev pub kind_of : List ℕ → Option Work
kind_of word =
    if bytes_eq word (codes "counter") then Some Counter
    else if bytes_eq word (codes "bank") then Some Bank
    else if bytes_eq word (codes "buckets") then Some Buckets
    else if bytes_eq word (codes "locks") then Some Locks
    else if bytes_eq word (codes "overflow") then Some Overflow
    else if bytes_eq word (codes "pairs") then Some Pairs
    else None

abbrev pub gen_in : List Field → Option Job
gen_in fields = do
  kind ← value_in fields (codes "kind") >>= kind_of
  number ← value_in fields (codes "number") >>= number_of
  file ← value_in fields (codes "file")
  Some (Gen kind number file)

abbrev pub gen_of : List (List ℕ) → Option Job
gen_of words = fields_of gen_form words >>= gen_in

-- the first word names the command
abbrev pub job_of : List (List ℕ) → Option Job
job_of [] = None
job_of (name ∷ words) =
    if bytes_eq name (codes "run") then run_of words
    else if bytes_eq name (codes "replay") then replay_of words
    else if bytes_eq name (codes "look") then looking_of words
    else if bytes_eq name (codes "find") then finding_of words
    else if bytes_eq name (codes "check") then check_of words
    else if bytes_eq name (codes "gen") then gen_of words
    else None

-- the names of the commands
abbrev pub command_names : List (List ℕ)
command_names =
    codes "run" ∷ codes "replay" ∷ codes "look" ∷ codes "find" ∷ codes "check" ∷ codes "gen" ∷ []

-- the first word is the name of a command
abbrev pub names_command : List (List ℕ) → Bool
names_command [] = false
names_command (name ∷ words) = list_any (bytes_eq name) command_names

-- what a command asks for
abbrev pub run_meaning : RunCommand → RunJob
run_meaning command = record {
  image = command.image.now;
  mode = command.mode;
  harts = command.harts;
  sets = command.sets;
  ways = command.ways;
  lines = command.lines;
  long = command.long;
  steps = command.steps;
  threads = command.threads;
  trace = option_map (λ name. name.now) command.trace;
  cert = option_map (λ name. name.now) command.certificate;
  times = command.times;
}

abbrev pub replay_meaning : ReplayCommand → ReplayJob
replay_meaning command = record {
  image = command.image.now;
  trace = command.trace.now;
  written = option_map (λ name. name.now) command.written;
  times = command.times;
}

abbrev pub look_meaning : LookCommand → LookJob
look_meaning command = record {
  image = command.image.now;
  trace = command.trace.now;
  place = command.place;
  back = command.back;
}

abbrev pub find_meaning : FindCommand → FindJob
find_meaning command = record {
  image = command.image.now;
  trace = command.trace.now;
  hart = command.hart;
  pc = command.pc;
}

abbrev pub meaning : Command → Job
meaning (commands.Run command) = Run (run_meaning command)
meaning (commands.Replay command) = Replay (replay_meaning command)
meaning (commands.Look command) = Look (look_meaning command)
meaning (commands.Find command) = Find (find_meaning command)
meaning (commands.Check image certificate) = Check image.now certificate.now
meaning (commands.Gen kind number file) = Gen kind number file.now
