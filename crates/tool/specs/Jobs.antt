-- What the program answers to its words, over files.
use Rattle.std.specs.Prelude.{◌≡◌, ◌≤◌, ◌⊎◌, ℕ, ◌-◌, List, [], length, Option, None, Some, MatchOption}
use Rattle.command_line.specs.Settings.{config_of}
use Rattle.command_line.specs.Words.{Job, Run, Replay, Look, Find, Check, Gen, FindJob, LookJob, ReplayJob, RunJob}
use Rattle.command_line.specs.Words.{job_of}
use Rattle.drive.specs.Drivers.{MakesRoundRobin, MakesTurns}
use Rattle.el_base.specs.declared.events.Event.{Event}
use Rattle.el_base.specs.declared.config.Config.{Config}
use Rattle.el_base.specs.declared.outcomes.Outcome.{Outcome}
use Rattle.el_io.specs.Shelf.{Contents, Holds}
use Rattle.elf_image.specs.Faults.{IsFaultless}
use Rattle.elf_image.specs.Limits.{file_limit}
use Rattle.elf_image.specs.Loaded.{program_of}
use Rattle.elf_image.specs.Program.{Program}
use Rattle.drive.specs.Story.{Story, continued}
use Rattle.run_check.specs.Check.{IsVerdict}
use Rattle.run_check.specs.Content.{Content}
use Rattle.run_check.specs.Spelling as certificates
use Rattle.run_check.specs.Spelling.{IsCertificate}
use Rattle.run_check.specs.declared.verdict.Verdict.{Verdict}
use Rattle.trace_file.specs.Spelling.{IsTrace, outcomes, spelling}
use Rattle.workload.specs.Image.{IsWorkload}
use Rattle.workload.specs.declared.work.Work.{Work}
use Rattle.tool.specs.declared.refusal.Refusal.{Refusal}
use Rattle.tool.specs.declared.refusal.Refusal.TheVariants.{Usage}
use Rattle.tool.specs.Answer.{Answer, Besides, differing, ended, found, generated, judged, looked, refused}
use Rattle.tool.specs.Differing.{CameAsRecorded, DiffersFrom}
use Rattle.tool.specs.declared.difference.Difference.{Difference}
use Rattle.tool.specs.Refusals.{check_refusal, find_refusal, look_refusal, replay_refusal, run_refusal}

-- the story of a program under a configuration, before its first event
abbrev pub first_story : Program → Config → Story
first_story program config = record { program = program; config = config; entries = [] }

-- what a run is to tell besides its output and its report, and what a replay is
abbrev pub besides_run : RunJob → Besides
besides_run job = record { trace = job.trace; cert = job.cert; times = job.times }

abbrev pub besides_replay : ReplayJob → Besides
besides_replay job = record { trace = job.written; cert = None; times = job.times }

-- the drivers of a run have made so many turns each, where there are any
abbrev pub DriversMade : Option ℕ → Story → Story → Type 0
DriversMade None before later = later ≡ before
DriversMade (Some turns) before later = MakesTurns turns before later

-- a run: by drivers, where so many turns of each are asked for, and then by a round robin of its harts
pub record MakesRun (threads : Option ℕ) (before later : Story) : Type 0 where
  pub driven : Story
  pub drivers : DriversMade threads before driven
  pub round_robin : MakesRoundRobin driven later

-- a run of a program under a configuration
pub record RanAnswer (job : RunJob) (program : Program) (config : Config) (answer : Answer) : Type 0 where
  pub later : Story
  pub run : MakesRun job.threads (first_story program config) later
  pub exact : answer ≡ ended (besides_run job) later

-- what a replay comes to: the outcomes came as its trace records them, where it records any, or one differed
abbrev pub IsReplayed : Besides → Option (List Outcome) → Story → Answer → Type 0
IsReplayed besides recorded story answer =
    (CameAsRecorded recorded (outcomes story.entries) × (answer ≡ ended besides story))
    ⊎ ((difference : Difference) × DiffersFrom recorded (outcomes story.entries) difference
    × (answer ≡ differing difference))

-- the events that a trace spells, made on an image
pub record FollowAnswer (besides : Besides) (image trace : List ℕ) (answer : Answer) : Type 0 where
  pub config : Config
  pub made : List Event
  pub recorded : Option (List Outcome)
  pub is_trace : IsTrace config made recorded
  pub spelled : trace ≡ spelling config made recorded
  pub exact :
      IsReplayed besides recorded (continued (first_story (program_of image config.harts) config) made) answer

-- a trace spells events, and this is the story of an image with these
pub record IsStoryOf (image trace : List ℕ) (story : Story) : Type 0 where
  pub config : Config
  pub made : List Event
  pub recorded : Option (List Outcome)
  pub is_trace : IsTrace config made recorded
  pub spelled : trace ≡ spelling config made recorded
  pub exact : story ≡ continued (first_story (program_of image config.harts) config) made

-- a place of the story that a trace tells of an image, and so many places back from there
pub record PlaceAnswer (job : LookJob) (image trace : List ℕ) (answer : Answer) : Type 0 where
  pub story : Story
  pub told : IsStoryOf image trace story
  pub exact : answer ≡ looked (record {
    program = story.program;
    entries = story.entries;
    place = job.place - job.back;
  })

-- the places of the story that a trace tells of an image at which a hart comes to a pc
pub record PlacesAnswer (job : FindJob) (image trace : List ℕ) (answer : Answer) : Type 0 where
  pub story : Story
  pub told : IsStoryOf image trace story
  pub exact : answer ≡ found story.program story.entries job.hart job.pc

-- the answer to a job: its first refusal, or else what it comes to
abbrev pub UnlessRefused : Option Refusal → (Answer → Type 0) → Answer → Type 0
UnlessRefused found Answers answer = MatchOption found (Answers answer) (λ refusal. answer ≡ refused refusal)

-- to run an image file
abbrev pub RunAnswer : RunJob → List ℕ → Answer → Type 0
RunAnswer job image answer =
    UnlessRefused (run_refusal job image) (RanAnswer job (program_of image (config_of job).harts) (config_of job))
    answer

-- to replay a trace on an image file
abbrev pub ReplayAnswer : Besides → List ℕ → List ℕ → Answer → Type 0
ReplayAnswer besides image trace answer =
    UnlessRefused (replay_refusal image trace) (FollowAnswer besides image trace) answer

-- to show a place of a trace on an image file
abbrev pub LookAnswer : LookJob → List ℕ → List ℕ → Answer → Type 0
LookAnswer job image trace answer =
    UnlessRefused (look_refusal job image trace) (PlaceAnswer job image trace) answer

-- to find where in a trace on an image file a hart comes to a pc
abbrev pub FindAnswer : FindJob → List ℕ → List ℕ → Answer → Type 0
FindAnswer job image trace answer =
    UnlessRefused (find_refusal job image trace) (PlacesAnswer job image trace) answer

-- to judge a certificate of a run of an image
pub record VerdictAnswer (image certificate : List ℕ) (answer : Answer) : Type 0 where
  pub content : Content
  pub is_certificate : IsCertificate content
  pub spelled : certificate ≡ certificates.spelling content
  pub verdict : Verdict
  pub is_verdict : IsVerdict (program_of image content.harts) content verdict
  pub exact : answer ≡ judged verdict (length content.output)

abbrev pub CheckAnswer : List ℕ → List ℕ → Answer → Type 0
CheckAnswer image certificate answer =
    UnlessRefused (check_refusal image certificate) (VerdictAnswer image certificate) answer

-- the same over the files that a shelf tells, or over any bytes at each read where it tells none
pub record IsRunAnswer (job : RunJob) (told : Option Contents) (answer : Answer) : Type 0 where
  pub image : List ℕ
  pub image_file : Holds told job.image image
  pub exact : RunAnswer job image answer

pub record IsReplayAnswer (job : ReplayJob) (told : Option Contents) (answer : Answer) : Type 0 where
  pub image : List ℕ
  pub trace : List ℕ
  pub image_file : Holds told job.image image
  pub trace_file : Holds told job.trace trace
  pub exact : ReplayAnswer (besides_replay job) image trace answer

pub record IsLookAnswer (job : LookJob) (told : Option Contents) (answer : Answer) : Type 0 where
  pub image : List ℕ
  pub trace : List ℕ
  pub image_file : Holds told job.image image
  pub trace_file : Holds told job.trace trace
  pub exact : LookAnswer job image trace answer

pub record IsFindAnswer (job : FindJob) (told : Option Contents) (answer : Answer) : Type 0 where
  pub image : List ℕ
  pub trace : List ℕ
  pub image_file : Holds told job.image image
  pub trace_file : Holds told job.trace trace
  pub exact : FindAnswer job image trace answer

pub record IsCheckAnswer (image_name certificate_name : List ℕ) (told : Option Contents)
    (answer : Answer) : Type 0 where
  pub image : List ℕ
  pub certificate : List ℕ
  pub image_file : Holds told image_name image
  pub certificate_file : Holds told certificate_name certificate
  pub exact : CheckAnswer image certificate answer

-- to write the image of a kind with this number to a file
pub record IsGenAnswer (kind : Work) (number : ℕ) (file : List ℕ) (answer : Answer) : Type 0 where
  pub image : List ℕ
  pub accepted : IsFaultless image
  pub within_limit : length image ≤ file_limit
  pub is_workload : IsWorkload kind number image
  pub exact : answer ≡ generated file image

-- an answer to a job; words that are none are refused
abbrev pub JobAnswer : Option Contents → Option Job → Answer → Type 0
JobAnswer told None answer = answer ≡ refused Usage
JobAnswer told (Some (Run job)) answer = IsRunAnswer job told answer
JobAnswer told (Some (Replay job)) answer = IsReplayAnswer job told answer
JobAnswer told (Some (Look job)) answer = IsLookAnswer job told answer
JobAnswer told (Some (Find job)) answer = IsFindAnswer job told answer
JobAnswer told (Some (Check image certificate)) answer = IsCheckAnswer image certificate told answer
JobAnswer told (Some (Gen kind number file)) answer = IsGenAnswer kind number file answer

-- an answer to these words
abbrev pub IsAnswer : List (List ℕ) → Option Contents → Answer → Type 0
IsAnswer words told answer = JobAnswer told (job_of words) answer
