-- none of the harts so far has an event that is progress
use Rattle.std.proofs.Common.{◌≡◌}
use Rattle.std.specs.List.{find}
use Rattle.machine.proofs.Readiness.{events_from}
use Rattle.machine.proofs.machine.Machine.first_ready.Given as goal
use Rattle.machine.specs.Story.{state_of}
use Rattle.progress_laws.specs.Ready.{gets_on, ready_event}

abbrev pub invariant-loop-number : goal.invariant-loop-number
invariant-loop-number l =
    ready_event (state_of l.self) ≡ find (gets_on (state_of l.self)) (events_from (state_of l.self) l.number)
