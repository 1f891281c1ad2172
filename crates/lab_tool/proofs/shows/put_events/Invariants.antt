use Rattle.std.proofs.Common.{◌≡◌, take}
use Rattle.machine.specs.Story.{continued}
use Rattle.lab_tool.proofs.shows.put_events.Given as goal

abbrev pub invariant-loop-event : goal.invariant-loop-event
invariant-loop-event g l = l.machine ≡ continued l.initial.machine (take l.event-index l.events)
