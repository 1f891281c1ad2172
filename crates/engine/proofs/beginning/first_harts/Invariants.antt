-- the harts so far
use Rattle.std.proofs.Common.{◌≡◌, map}
use Rattle.std.specs.List.{range_with_len}
use Rattle.engine.specs.Views.{first_own}
use Rattle.engine.proofs.beginning.first_harts.Given as goal

abbrev pub invariant-loop-hart : goal.invariant-loop-hart
invariant-loop-hart l = l.harts.items ≡ map (first_own l.image l.config) (range_with_len 0 l.hart)
