use Rattle.std.proofs.Common.{take}
use Rattle.std.specs.List.{flat_map, range_with_len}
use Rattle.report.specs.Puts.{PutAll}
use Rattle.report.specs.TimesText.{losses_of}
use Rattle.report.proofs.times.put_loss_lines.Given as goal

abbrev pub invariant-loop-number : goal.invariant-loop-number
invariant-loop-number g l =
    PutAll
    (record { taken = g.S.Sink.taken l.initial.sink; faults = g.S.Sink.faults l.initial.sink })
    (record { taken = g.S.Sink.taken l.sink; faults = g.S.Sink.faults l.sink })
    (flat_map (losses_of l.times l.harts) (take l.number (range_with_len 0 l.harts)))
