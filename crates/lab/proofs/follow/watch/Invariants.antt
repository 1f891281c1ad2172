use Rattle.std.proofs.Common.{◌≡◌, length, take}
use Rattle.lab.proofs.follow.watch.Given as goal
use Rattle.lab.specs.Lines.{facts_from}
use Rattle.lab.specs.Swaps.{swaps_from}
use Rattle.lab.specs.Tries.{AreLive, tries_from}
use Rattle.machine.specs.Story.{continued, state_of}

abbrev pub invariant-loop-event : goal.invariant-loop-event
invariant-loop-event l =
    (l.machine ≡ continued l.initial.machine (take l.event-index l.events))
    × (l.watched.tries ≡ tries_from (state_of l.initial.machine) (length l.initial.machine.entries)
    (take l.event-index l.events))
    × AreLive (state_of l.machine) l.watched.tries
    × (l.watched.swaps.items ≡ swaps_from (state_of l.initial.machine) (length l.initial.machine.entries)
    (take l.event-index l.events))
    × (l.watched.facts.items ≡ facts_from (state_of l.initial.machine) (length l.initial.machine.entries)
    (take l.event-index l.events))
