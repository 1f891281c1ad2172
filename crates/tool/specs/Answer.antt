-- What the program puts and writes, and how it ends.
use Rattle.std.specs.Prelude.{◌≡◌, ℕ, ◌<◌, Bool, true, false, List, [], ◌∷◌, ◌++◌, length, Option, Some, IfSome}
use Rattle.std.specs.Option.{option_map, option_to_list}
use Rattle.chronicle.specs.Chronicle.{events}
use Rattle.el_base.specs.declared.entries.Entry.{Entry}
use Rattle.elf_image.specs.Program.{Program}
use Rattle.drive.specs.Story.{Story, committed}
use Rattle.run_check.specs.Certified.{certificate_of}
use Rattle.run_check.specs.Spelling as certificates
use Rattle.run_check.specs.declared.verdict.Verdict.{Verdict}
use Rattle.run_check.specs.declared.verdict.Verdict.TheVariants as verdicts
use Rattle.step_back.specs.Standing.{Standing}
use Rattle.trace_file.specs.Spelling.{outcomes, spelling}
use Rattle.tool.specs.declared.difference.Difference.{Difference}
use Rattle.tool.specs.declared.made.Extras.{Extras}
use Rattle.tool.specs.declared.made.Made.{Made}
use Rattle.tool.specs.declared.made.Made.TheVariants as made
use Rattle.tool.specs.declared.refusal.Refusal.{Refusal}
use Rattle.tool.specs.declared.status.Status.{Status}
use Rattle.tool.specs.declared.status.Status.TheVariants.{Differs, Done, Refused, Rejected}
use Rattle.tool.specs.Ending.{ending}
use Rattle.tool.specs.Messages.{differs_line, fails_line, holds_line, line_of, wrote_line}
use Rattle.report.specs.PlaceText.{found_text, place_of}
use Rattle.report.specs.Text.{report_of}
use Rattle.report.specs.TimesText.{times_of}

-- a file that the program writes
pub record WrittenFile : Type 0 where
  pub name : List ℕ
  pub bytes : List ℕ

-- how the program ends, what it puts to out and to err, and the files that it writes, in their order: behind what it
-- puts to out and before what it puts to err
pub record Answer : Type 0 where
  pub status : Status
  pub out : List ℕ
  pub err : List ℕ
  pub written : List WrittenFile

-- a line to err, and nothing else
abbrev pub line_alone : Status → List ℕ → Answer
line_alone status line = record { status = status; out = []; err = line; written = [] }

-- a refusal puts its line
abbrev pub refused : Refusal → Answer
refused refusal = line_alone Refused (line_of refusal)

-- the trace that a run writes, under the name that was given: its events with what came of each
abbrev pub written_by : Story → List ℕ → WrittenFile
written_by story name = record {
  name = name;
  bytes = spelling story.config (events story.entries) (Some (outcomes story.entries));
}

-- the certificate that a run writes, under the name that was given
abbrev pub certified_by : Story → List ℕ → WrittenFile
certified_by story name =
    record { name = name; bytes = certificates.spelling (certificate_of story.program story.entries (committed story)) }

-- what a run tells besides its output and its report: its trace and its certificate, under the names that were
-- given, and its times
pub record Besides : Type 0 where
  pub trace : Option (List ℕ)
  pub cert : Option (List ℕ)
  pub times : Bool

-- the file of a name, where one was given
abbrev pub where_named : (List ℕ → WrittenFile) → Option (List ℕ) → List WrittenFile
where_named written name = option_to_list (option_map written name)

-- what a run that has ended writes
abbrev pub files_of : Besides → Story → List WrittenFile
files_of besides story = where_named (written_by story) besides.trace ++ where_named (certified_by story) besides.cert

-- the lines behind its report
abbrev pub times_if : Bool → Story → List ℕ
times_if true story = times_of story.config.harts story.entries
times_if false story = []

-- a run that has ended puts the program's output to out and its report to err, and tells what it is to tell besides
abbrev pub ended : Besides → Story → Answer
ended besides story = record {
  status = ending story;
  out = (committed story).output;
  err = report_of story ++ times_if besides.times story;
  written = files_of besides story;
}

-- a replay in which another outcome came than the recorded one puts a line that says where, and nothing else
abbrev pub differing : Difference → Answer
differing difference = line_alone Differs (differs_line difference)

-- an image is written to its file, and its length is put to err
abbrev pub generated : List ℕ → List ℕ → Answer
generated file image = record {
  status = Done;
  out = [];
  err = wrote_line (length image);
  written = record { name = file; bytes = image } ∷ [];
}

-- a certificate holds or fails, and its line says so, with the length of the output that it tells
abbrev pub judged : Verdict → ℕ → Answer
judged (verdicts.Holds serial) output = line_alone Done (holds_line serial output)
judged (verdicts.Fails number place) output = line_alone Rejected (fails_line number place)

-- bytes for out, and nothing else
abbrev pub out_alone : List ℕ → Answer
out_alone bytes = record { status = Done; out = bytes; err = []; written = [] }

-- a place of a run is shown
abbrev pub looked : Standing → Answer
looked standing = out_alone (place_of standing)

-- the places of a run at which a hart comes to a pc are told
abbrev pub found : Program → List Entry → ℕ → ℕ → Answer
found program entries hart pc = out_alone (found_text program entries hart pc)

-- what is told besides, as the code has it
abbrev pub besides_of : Extras → Besides
besides_of extras = record {
  trace = option_map (λ name. name.now) extras.trace;
  cert = option_map (λ copy. copy.name.now) extras.certified;
  times = extras.times;
}

-- the answer that has been made
abbrev pub answer_of : Made → Answer
answer_of (made.Run machine extras) = ended (besides_of extras) machine
answer_of (made.Differs difference) = differing difference
answer_of (made.Place timeline) = looked timeline
answer_of (made.Sought timeline hart pc) = found timeline.program timeline.entries hart.number pc
answer_of (made.Image bytes file) = generated file.now bytes.items
answer_of (made.Judged verdict output) = judged verdict output

-- what has been made can be told: the copy of an image that a certificate is written with is of the machine's
-- program, and there is the hart that is sought
abbrev pub CanBeTold : Made → Type 0
CanBeTold (made.Run machine extras) = IfSome extras.certified (λ copy. copy.image ≡ machine.program)
CanBeTold (made.Differs difference) = Unit {0}
CanBeTold (made.Place timeline) = Unit {0}
CanBeTold (made.Sought timeline hart pc) = hart.number < timeline.program.harts
CanBeTold (made.Image bytes file) = Unit {0}
CanBeTold (made.Judged verdict output) = Unit {0}
