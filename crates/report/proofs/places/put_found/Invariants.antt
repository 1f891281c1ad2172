-- the places up to the present one are put
use Rattle.std.proofs.Common.{◌≡◌, ◌≤◌, ◌-◌, length}
use Rattle.std.specs.List.{flat_map}
use Rattle.report.specs.Line.{number_line}
use Rattle.report.specs.Puts.{PutAll}
use Rattle.step_back.proofs.Laws.Places.{places_to}
use Rattle.report.proofs.places.put_found.Given as goal

abbrev pub invariant-loop-hart : goal.invariant-loop-hart
invariant-loop-hart g l = record {
  same : l.timeline ≡ record l.initial.timeline { place = l.timeline.place };
  within : l.timeline.place ≤ length l.timeline.entries;
  put : PutAll
      (record { taken = g.S.Sink.taken l.initial.sink; faults = g.S.Sink.faults l.initial.sink })
      (record { taken = g.S.Sink.taken l.sink; faults = g.S.Sink.faults l.sink })
      (flat_map number_line (places_to l.timeline l.hart.number l.pc l.timeline.place));
}

abbrev pub decreases-loop-hart : goal.decreases-loop-hart
decreases-loop-hart g l = length l.timeline.entries - l.timeline.place
