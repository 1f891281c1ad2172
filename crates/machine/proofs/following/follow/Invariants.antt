use Rattle.std.proofs.Common.{◌≡◌, take}
use Rattle.machine.specs.Story.{continued}
use Rattle.machine.proofs.following.follow.Given as goal

abbrev pub invariant-loop-event : goal.invariant-loop-event
invariant-loop-event l = l.machine ≡ continued l.initial.machine (take l.event-index l.events)
