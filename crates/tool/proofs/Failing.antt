-- Which calls of the shelf may fail.
use Rattle.std.proofs.Common.{List, [], ◌∷◌, ◌++◌, map, Option, None, Some, inl, inr, subst}
use Rattle.command_line.specs.Settings.{config_of}
use Rattle.command_line.specs.Words.{Job, Run, Replay, Look, Find, Check, Gen, ReplayJob}
use Rattle.el_base.specs.Config.{config_fault}
use Rattle.el_base.specs.declared.config.ConfigFault.{ConfigFault}
use Rattle.el_io.specs.Shelf.{Contents, NamedCall}
use Rattle.tool.specs.Causes.{Failures, FileRead, IsWithin, ListsOne, MayWrite, ReadFailed, calls_of, calls_under}
use Rattle.tool.specs.Causes.{certificate_read, image_read}
use Rattle.tool.specs.Causes.{read_call, reads_of, reads_under, run_writes, trace_read, writes_of, writes_to}
use Rattle.tool.specs.Jobs.{besides_run}
use Rattle.tool.specs.Answer.{Answer}
use Rattle.tool.specs.Comes.{Told}
use Rattle.tool.specs.Faults.{CutOff, Faulted}
use Rattle.tool.specs.Telling.{Only}
use Rattle.tool.specs.declared.made.Made.{Made}
use Rattle.tool.specs.declared.status.Status.{Status}
use Rattle.tool.specs.declared.status.Status.TheVariants as statuses

-- a read that failed is one of the calls that begin with the reads
read_is_call : (told : Option Contents) (reads : List FileRead) (calls before now : List NamedCall) →
    ReadFailed told reads before now → ListsOne (map read_call reads ++ calls) before now
read_is_call told [] calls before now none = absurd none
read_is_call told (file ∷ files) calls before now (inl failed) = inl failed
read_is_call told (file ∷ files) calls before now (inr later) = inr (read_is_call told files calls before now later.1)

under : (told : Option Contents) (found : Option ConfigFault) (file : FileRead) (calls before now : List NamedCall) →
    ReadFailed told (reads_under found (file ∷ [])) before now →
    ListsOne (calls_under found (read_call file ∷ calls)) before now
under told (Some found) file calls before now none = none
under told None file calls before now failed = read_is_call told (file ∷ []) calls before now failed

pub reads_are_calls : (told : Option Contents) (job : Option Job) (before now : List NamedCall) →
    ReadFailed told (reads_of job) before now → ListsOne (calls_of job) before now
reads_are_calls told None before now none = none
reads_are_calls told (Some (Run job)) before now failed =
    under told (config_fault (config_of job)) (image_read job.image) (run_writes (besides_run job)) before now failed
reads_are_calls told (Some (Replay job)) before now failed =
    read_is_call told (image_read job.image ∷ trace_read job.trace ∷ []) (writes_to job.written) before now failed
reads_are_calls told (Some (Look job)) before now failed =
    read_is_call told (image_read job.image ∷ trace_read job.trace ∷ []) [] before now failed
reads_are_calls told (Some (Find job)) before now failed =
    read_is_call told (image_read job.image ∷ trace_read job.trace ∷ []) [] before now failed
reads_are_calls told (Some (Check image certificate)) before now failed =
    read_is_call told (image_read image ∷ certificate_read certificate ∷ []) [] before now failed
reads_are_calls told (Some (Gen kind number file)) before now none = absurd none

-- a read that failed behind one that was read
pub failed_behind : (told : Option Contents) (file : FileRead) (files : List FileRead) (before now : List NamedCall) →
    IsWithin told file → ReadFailed told files before now → ReadFailed told (file ∷ files) before now
failed_behind told file files before now within failed = inr (within, failed)

-- what is left to write of a replay is among its calls
pub replay_writes_are_calls : (job : ReplayJob) (made : Made) (before now : List NamedCall) →
    MayWrite job.written made → ListsOne (writes_of made) before now →
    ListsOne (calls_of (Some (Replay job))) before now
replay_writes_are_calls job made before now (inl same) listed =
    inr (inr (subst (λ calls. ListsOne calls before now) same listed))
replay_writes_are_calls job made before now (inr none) listed =
    absurd (subst (λ calls. ListsOne calls before now) none listed)

-- an answer that was cut off is one of the answers that may be
pub faulted_by : (reads : List FileRead) (Answers : Answer → Type 0) (answer : Answer) (status : Status)
    (had has : Failures) (before now : Told) → Answers answer → Faulted [] (Only answer) status had has before now →
    Faulted reads Answers status had has before now
faulted_by reads Answers answer statuses.DeviceFault had has before now is (inl none) = absurd none.read
faulted_by reads Answers answer statuses.DeviceFault had has before now is (inr cut) =
    inr (answer, is, subst (λ (one : Answer). CutOff had has before now one) cut.1 cut.2)
faulted_by reads Answers answer statuses.Done had has before now is none = tt
faulted_by reads Answers answer statuses.HartFailed had has before now is none = tt
faulted_by reads Answers answer statuses.Refused had has before now is none = tt
faulted_by reads Answers answer statuses.StepLimit had has before now is none = tt
faulted_by reads Answers answer statuses.NoMemory had has before now is none = tt
faulted_by reads Answers answer statuses.Rejected had has before now is none = tt
faulted_by reads Answers answer statuses.Differs had has before now is none = tt
