use Rattle.std.proofs.Common.{◌≡◌, ℕ, ◌<◌}
use Rattle.std.specs.List.{slice_get}
use Rattle.run_check.proofs.checking.first_view.Given as goal

abbrev pub invariant-loop-number : goal.invariant-loop-number
invariant-loop-number l = (hart : ℕ) → hart < l.number → slice_get l.flat.harts hart ≡ slice_get l.views hart
