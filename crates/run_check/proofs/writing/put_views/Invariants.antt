use Rattle.std.proofs.Common.{◌≡◌, ◌++◌, take}
use Rattle.std.specs.List.{flat_map}
use Rattle.run_check.specs.Spelling.{view_bytes}
use Rattle.run_check.proofs.writing.put_views.Given as goal

abbrev pub invariant-loop-view : goal.invariant-loop-view
invariant-loop-view l = l.bytes.items ≡ l.initial.bytes.items ++ flat_map view_bytes (take l.view-index l.views)
