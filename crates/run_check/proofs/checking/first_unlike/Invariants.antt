use Rattle.std.proofs.Common.{◌≡◌, ℕ, ◌<◌, ◌≤◌}
use Rattle.rv_flat.specs.Memory.{byte_in}
use Rattle.run_check.proofs.checking.first_unlike.Given as goal

abbrev pub invariant-loop-address : goal.invariant-loop-address
invariant-loop-address l =
    (address : ℕ) → l.from ≤ address → address < l.address →
    byte_in l.image.base l.flat.bytes address ≡ byte_in l.image.base l.image.bytes address
