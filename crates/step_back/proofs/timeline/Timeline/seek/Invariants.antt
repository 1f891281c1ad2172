-- it stands so many places on, or back
use Rattle.std.proofs.Common.{◌≡◌, ◌+◌, ◌-◌}
use Rattle.step_back.proofs.timeline.Timeline.seek.Given as goal

abbrev pub invariant-loop : goal.invariant-loop
invariant-loop l = l.self ≡ record l.initial.self { place = l.counter }

abbrev pub invariant-loop-2 : goal.invariant-loop-2
invariant-loop-2 l = l.self ≡ record l.initial.self { place = l.place + (l.end - l.counter) }
