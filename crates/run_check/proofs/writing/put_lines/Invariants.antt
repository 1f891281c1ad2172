use Rattle.std.proofs.Common.{◌≡◌, ◌++◌, take}
use Rattle.std.specs.List.{flat_map}
use Rattle.run_check.specs.Spelling.{patch_bytes}
use Rattle.run_check.proofs.writing.put_lines.Given as goal

abbrev pub invariant-loop-patch : goal.invariant-loop-patch
invariant-loop-patch l = l.bytes.items ≡ l.initial.bytes.items ++ flat_map patch_bytes (take l.patch-index l.lines)
