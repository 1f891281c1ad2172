use Rattle.std.proofs.Common.{take}
use Rattle.std.specs.List.{flat_map, range_with_len}
use Rattle.report.specs.PlaceText.{view_line}
use Rattle.report.specs.Puts.{PutAll}
use Rattle.rv_flat.specs.FlatState.{view_of}
use Rattle.step_back.specs.Standing.{state_here}
use Rattle.report.proofs.places.put_pc_lines.Given as goal

abbrev pub invariant-loop-number : goal.invariant-loop-number
invariant-loop-number g l =
    PutAll
    (record { taken = g.S.Sink.taken l.initial.sink; faults = g.S.Sink.faults l.initial.sink })
    (record { taken = g.S.Sink.taken l.sink; faults = g.S.Sink.faults l.sink })
    (flat_map (view_line (view_of (state_here l.timeline))) (take l.number (range_with_len 0 l.timeline.program.harts)))
