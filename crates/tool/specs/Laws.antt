-- What holds of answers, whatever the files.
use Rattle.std.specs.Prelude.{◌≡◌, ◌≢◌, ℕ, List, Some, slice_get}
use Rattle.command_line.specs.Words.{Run, Replay, ReplayJob, RunJob}
use Rattle.el_io.specs.Shelf.{Contents}
use Rattle.tool.specs.Answer.{Answer}
use Rattle.tool.specs.declared.status.Status.TheVariants.{Differs}
use Rattle.tool.specs.Jobs.{JobAnswer}

-- two answers put the same bytes and end with the same status
pub record SaysTheSame (one other : Answer) : Type 0 where
  pub status : one.status ≡ other.status
  pub out : one.out ≡ other.out
  pub err : one.err ≡ other.err

-- a run that wrote a trace, which is the first file that it writes, and a replay of that trace on the same image,
-- where both tell their times or neither does
abbrev pub ReplayRepeatsRun : Type 0
ReplayRepeatsRun =
    (job : RunJob) (again : ReplayJob) (name : List ℕ) (before after : Contents) (ran replayed : Answer) →
    JobAnswer (Some before) (Some (Run job)) ran →
    job.trace ≡ Some name → slice_get ran.written 0 ≡ Some (record { name = name; bytes = after name }) →
    again.image ≡ job.image → again.trace ≡ name → again.times ≡ job.times → after job.image ≡ before job.image →
    JobAnswer (Some after) (Some (Replay again)) replayed →
    SaysTheSame ran replayed × (replayed.status ≢ Differs)
