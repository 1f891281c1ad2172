use Rattle.std.proofs.Common.{◌≡◌, ℕ, ◌+◌, ◌*◌, ◌<◌}
use Rattle.std.specs.Prelude.{slice_index}
use Rattle.rv_flat.specs.Memory.{byte_in}
use Rattle.run_check.proofs.checking.first_other.Given as goal

abbrev pub invariant-loop-index : goal.invariant-loop-index
invariant-loop-index l =
    (index : ℕ) → index < l.index → byte_in l.flat.base l.flat.bytes (64 * l.line + index) ≡ slice_index l.bytes index
