-- What a fault of a device shows: one call of a device failed, and with any other ending none did.
use Rattle.std.specs.Prelude.{◌≡◌, ℕ, ◌≤◌, ◌⊎◌, Bool, true, false, List, [], ◌∷◌, ◌++◌, length, map, Option, None, Some}
use Rattle.std.specs.Option.{option_to_list}
use Rattle.command_line.specs.Settings.{config_of}
use Rattle.command_line.specs.Words.{Job, Run, Replay, Look, Find, Check, Gen, RunJob}
use Rattle.el_base.specs.Config.{config_fault}
use Rattle.el_base.specs.declared.config.ConfigFault.{ConfigFault}
use Rattle.el_io.specs.Counts.{one_more}
use Rattle.el_io.specs.Shelf.{Contents, NamedCall}
use Rattle.el_io.specs.declared.shelf.Call.TheVariants.{Read, Write}
use Rattle.elf_image.specs.Limits.{file_limit}
use Rattle.tool.specs.Answer.{Besides, besides_of}
use Rattle.tool.specs.Jobs.{besides_run}
use Rattle.tool.specs.Refusals.{certificate_limit, trace_limit}
use Rattle.tool.specs.declared.made.Made.{Made}
use Rattle.tool.specs.declared.made.Made.TheVariants as made
use Rattle.tool.specs.declared.status.Status.{Status}
use Rattle.tool.specs.declared.status.Status.TheVariants.{DeviceFault}
use Rattle.tool.specs.declared.stop.Fault.{Fault}
use Rattle.tool.specs.declared.stop.Fault.TheVariants.{Device, NoMemory}
use Rattle.tool.specs.declared.stop.Stop.{Stop}
use Rattle.tool.specs.declared.stop.Stop.TheVariants.{Refused, Failed}

-- the write of a file, where one is named
abbrev pub writes_to : Option (List ℕ) → List NamedCall
writes_to name = map (λ given. (Write, given)) (option_to_list name)

-- the writes of what a run writes
abbrev pub run_writes : Besides → List NamedCall
run_writes besides = writes_to besides.trace ++ writes_to besides.cert

-- the writes that are left to what a command has made
abbrev pub writes_of : Made → List NamedCall
writes_of (made.Run machine extras) = run_writes (besides_of extras)
writes_of (made.Differs difference) = []
writes_of (made.Place timeline) = []
writes_of (made.Sought timeline hart pc) = []
writes_of (made.Image bytes file) = writes_to (Some file.now)
writes_of (made.Judged verdict output) = []

-- what is left to write of a replay: its trace, where a name was given for one, or nothing, where it differs
abbrev pub MayWrite : Option (List ℕ) → Made → Type 0
MayWrite written made = (writes_of made ≡ writes_to written) ⊎ (writes_of made ≡ [])

-- these calls of the shelf, under a configuration that has no fault
abbrev pub calls_under : Option ConfigFault → List NamedCall → List NamedCall
calls_under (Some found) calls = []
calls_under None calls = calls

-- a file that is read, and the most bytes that it may have
pub record FileRead : Type 0 where
  pub name : List ℕ
  pub limit : ℕ

abbrev pub read_call : FileRead → NamedCall
read_call file = (Read, file.name)

abbrev pub image_read : List ℕ → FileRead
image_read name = record { name = name; limit = file_limit }

abbrev pub trace_read : List ℕ → FileRead
trace_read name = record { name = name; limit = trace_limit }

abbrev pub certificate_read : List ℕ → FileRead
certificate_read name = record { name = name; limit = certificate_limit }

-- these reads, under a configuration that has no fault
abbrev pub reads_under : Option ConfigFault → List FileRead → List FileRead
reads_under (Some found) reads = []
reads_under None reads = reads

-- the files that a job reads, in their order
abbrev pub reads_of : Option Job → List FileRead
reads_of None = []
reads_of (Some (Run job)) = reads_under (config_fault (config_of job)) (image_read job.image ∷ [])
reads_of (Some (Replay job)) = image_read job.image ∷ trace_read job.trace ∷ []
reads_of (Some (Look job)) = image_read job.image ∷ trace_read job.trace ∷ []
reads_of (Some (Find job)) = image_read job.image ∷ trace_read job.trace ∷ []
reads_of (Some (Check image certificate)) = image_read image ∷ certificate_read certificate ∷ []
reads_of (Some (Gen kind number file)) = []

-- where contents are told, a file has no more bytes than its limit
abbrev pub IsWithin : Option Contents → FileRead → Type 0
IsWithin None file = Unit {0}
IsWithin (Some contents) file = length (contents file.name) ≤ file.limit

-- the read of one of these files failed: the list of failed calls got it at its end, and each file before it was read,
-- so it is within its limit
abbrev pub ReadFailed : Option Contents → List FileRead → List NamedCall → List NamedCall → Type 0
ReadFailed told [] before now = ⊥
ReadFailed told (file ∷ files) before now =
    (now ≡ before ++ (Read, file.name) ∷ []) ⊎ (IsWithin told file × ReadFailed told files before now)

-- the calls that a run makes of the shelf
abbrev pub run_calls : RunJob → List NamedCall
run_calls job = calls_under (config_fault (config_of job)) ((Read, job.image) ∷ run_writes (besides_run job))

-- the calls that a job makes of the shelf
abbrev pub calls_of : Option Job → List NamedCall
calls_of None = []
calls_of (Some (Run job)) = run_calls job
calls_of (Some (Replay job)) = (Read, job.image) ∷ (Read, job.trace) ∷ writes_to job.written
calls_of (Some (Look job)) = (Read, job.image) ∷ (Read, job.trace) ∷ []
calls_of (Some (Find job)) = (Read, job.image) ∷ (Read, job.trace) ∷ []
calls_of (Some (Check image certificate)) = (Read, image) ∷ (Read, certificate) ∷ []
calls_of (Some (Gen kind number file)) = writes_to (Some file)

-- a job whose answer may have bytes for out
abbrev pub puts_of : Option Job → Bool
puts_of None = false
puts_of (Some (Run job)) = true
puts_of (Some (Replay job)) = true
puts_of (Some (Look job)) = true
puts_of (Some (Find job)) = true
puts_of (Some (Check image certificate)) = false
puts_of (Some (Gen kind number file)) = false

-- the same of what a command has made
abbrev pub puts_out : Made → Bool
puts_out (made.Run machine extras) = true
puts_out (made.Differs difference) = true
puts_out (made.Place timeline) = true
puts_out (made.Sought timeline hart pc) = true
puts_out (made.Image bytes file) = false
puts_out (made.Judged verdict output) = false

-- the list of a shelf's failed calls got one of these calls at its end, and nothing else
abbrev pub ListsOne : List NamedCall → List NamedCall → List NamedCall → Type 0
ListsOne [] before now = ⊥
ListsOne (call ∷ calls) before now = (now ≡ before ++ call ∷ []) ⊎ ListsOne calls before now

-- the list of a shelf's failed calls at a fault: one of these calls failed, or none
abbrev pub FaultLists : List NamedCall → List NamedCall → List NamedCall → Fault → Type 0
FaultLists calls before now Device = ListsOne calls before now
FaultLists calls before now NoMemory = now ≡ before

-- the count of a sink's faults at a fault
abbrev pub FaultCounts : ℕ → ℕ → Fault → Type 0
FaultCounts before now Device = now ≡ one_more before
FaultCounts before now NoMemory = now ≡ before

-- a shelf's list at a stop: one of these reads failed, or no call
abbrev pub StopReads : Option Contents → List FileRead → List NamedCall → List NamedCall → Stop → Type 0
StopReads told reads before now (Refused refusal) = now ≡ before
StopReads told reads before now (Failed Device) = ReadFailed told reads before now
StopReads told reads before now (Failed NoMemory) = now ≡ before

-- the failed calls of a shelf, and the counts of faults of out and of err
pub record Failures : Type 0 where
  pub shelf : List NamedCall
  pub out : ℕ
  pub err : ℕ

-- exactly one call failed: one of these of the shelf, one of out where it is put to, or one of err
abbrev pub OneFailed : List NamedCall → Bool → Failures → Failures → Type 0
OneFailed calls puts before now =
    (ListsOne calls before.shelf now.shelf × (now ≡ record before { shelf = now.shelf }))
    ⊎ (((puts ≡ true) × (now ≡ record before { out = one_more before.out }))
    ⊎ (now ≡ record before { err = one_more before.err }))

-- a call of the program that ended with this status: one call of a device failed where that is a fault of a
-- device, and else none
abbrev pub Caused : List NamedCall → Bool → Status → Failures → Failures → Type 0
Caused calls puts DeviceFault before now = OneFailed calls puts before now
Caused calls puts status before now = now ≡ before
