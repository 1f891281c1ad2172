use Rattle.std.proofs.Common.{◌≡◌, map}
use Rattle.std.specs.List.{range_with_len}
use Rattle.run_check.specs.Faults.{view_at, view_place}
use Rattle.run_check.proofs.reading.views_of.Given as goal

abbrev pub invariant-loop-hart : goal.invariant-loop-hart
invariant-loop-hart l = l.list.items ≡ map (λ hart. view_at l.file (view_place l.file hart)) (range_with_len 0 l.hart)
