use Rattle.std.proofs.Common.{◌≡◌, map}
use Rattle.std.specs.List.{range_with_len}
use Rattle.run_check.specs.Faults.{patch_at}
use Rattle.run_check.proofs.reading.lines_of.Given as goal

abbrev pub invariant-loop-index : goal.invariant-loop-index
invariant-loop-index l = l.list.items ≡ map (patch_at l.file l.lines) (range_with_len 0 l.index)
