-- How the program ends.
use Rattle.std.specs.Prelude.{ℕ, Bool, true, false}
use Rattle.el_model.specs.Next.{is_over}
use Rattle.machine.specs.Story.{Story, state_of}
use Rattle.lab_tool.specs.declared.refusal.Refusal.{Refusal}
use Rattle.lab_tool.specs.declared.refusal.Refusal.TheVariants as refusals
use Rattle.lab_tool.specs.declared.status.Status.{Status}
use Rattle.lab_tool.specs.declared.status.Status.TheVariants.{Done, Refused, StillRuns, DeviceFault, NoMemory, Differs}
use Rattle.lab_tool.specs.declared.stop.Stop.{Stop}
use Rattle.lab_tool.specs.declared.stop.Stop.TheVariants as stops

-- the exit status of the process
abbrev pub number_of : Status → ℕ
number_of Done = 0
number_of Refused = 2
number_of StillRuns = 3
number_of DeviceFault = 4
number_of NoMemory = 5
number_of Differs = 6

-- behind a run of which every hart has stopped or not
abbrev pub status_where_over : Bool → Status
status_where_over true = Done
status_where_over false = StillRuns

-- behind a run
abbrev pub status_after : Story → Status
status_after story = status_where_over (is_over (state_of story))

-- behind a refusal
abbrev pub status_of_refusal : Refusal → Status
status_of_refusal (refusals.TooBig file limit) = Refused
status_of_refusal (refusals.Image file fault) = Refused
status_of_refusal (refusals.Trace file fault) = Refused
status_of_refusal (refusals.Config fault) = Refused
status_of_refusal (refusals.BadLine file number) = Refused
status_of_refusal (refusals.TooLong file) = Refused
status_of_refusal (refusals.PlaceOverEnd file events) = Refused
status_of_refusal (refusals.NoSuchHart file harts) = Refused
status_of_refusal (refusals.Differs file place) = Differs

-- behind what stopped a command
abbrev pub status_of_stop : Stop → Status
status_of_stop (stops.Shown text) = Done
status_of_stop (stops.Usage text) = Refused
status_of_stop (stops.Refused refusal) = status_of_refusal refusal
status_of_stop stops.Device = DeviceFault
status_of_stop stops.NoMemory = NoMemory
