use Rattle.std.proofs.Common.{take}
use Rattle.std.specs.List.{flat_map, range_with_len}
use Rattle.chronicle.specs.Tally.{tally_of}
use Rattle.step_back.specs.Story.{committed}
use Rattle.report.specs.Puts.{PutAll}
use Rattle.report.specs.Text.{hart_line}
use Rattle.rv_flat.specs.FlatState.{status_of}
use Rattle.report.proofs.report.put_hart_lines.Given as goal

abbrev pub invariant-loop-number : goal.invariant-loop-number
invariant-loop-number g l =
    PutAll
    (record { taken = g.S.Sink.taken l.initial.sink; faults = g.S.Sink.faults l.initial.sink })
    (record { taken = g.S.Sink.taken l.sink; faults = g.S.Sink.faults l.sink })
    (flat_map (λ hart. hart_line hart (tally_of hart l.machine.entries) (status_of (committed l.machine) hart))
    (take l.number (range_with_len 0 l.machine.config.harts)))
