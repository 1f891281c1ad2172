use Rattle.std.proofs.Common.{◌≡◌, map}
use Rattle.std.specs.List.{range_with_len}
use Rattle.run_check.specs.Faults.{stretch_at}
use Rattle.run_check.proofs.reading.stretches_of.Given as goal

abbrev pub invariant-loop-index : goal.invariant-loop-index
invariant-loop-index l = l.stretches.items ≡ map (stretch_at l.file) (range_with_len 0 l.index)
