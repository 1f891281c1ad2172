-- How the program ends.
use Rattle.std.specs.Prelude.{ℕ, Result, Ok, Err}
use Rattle.tool.specs.declared.status.Status.{Status}
use Rattle.tool.specs.declared.status.Status.TheVariants.{Done, HartFailed, Refused, StepLimit, DeviceFault, NoMemory}
use Rattle.tool.specs.declared.status.Status.TheVariants.{Differs, Rejected}
use Rattle.tool.specs.declared.stop.Fault.{Fault}
use Rattle.tool.specs.declared.stop.Fault.TheVariants as faults

-- the exit status of the process
abbrev pub number_of : Status → ℕ
number_of Done = 0
number_of HartFailed = 1
number_of Refused = 2
number_of StepLimit = 3
number_of DeviceFault = 4
number_of NoMemory = 5
number_of Differs = 6
number_of Rejected = 7

-- the status of a fault
abbrev pub status_of_fault : Fault → Status
status_of_fault faults.Device = DeviceFault
status_of_fault faults.NoMemory = NoMemory

-- the status of a call that came to its end, or to a fault
abbrev pub status_of : Result Status Fault → Status
status_of (Ok status) = status
status_of (Err fault) = status_of_fault fault
