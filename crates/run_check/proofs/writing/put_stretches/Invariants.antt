use Rattle.std.proofs.Common.{◌≡◌, ◌++◌, take}
use Rattle.std.specs.List.{flat_map}
use Rattle.run_check.specs.Spelling.{stretch_bytes}
use Rattle.run_check.proofs.writing.put_stretches.Given as goal

abbrev pub invariant-loop-stretch : goal.invariant-loop-stretch
invariant-loop-stretch l =
    l.bytes.items ≡ l.initial.bytes.items ++ flat_map stretch_bytes (take l.stretch-index l.stretches)
