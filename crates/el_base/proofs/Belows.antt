-- A number below its limit is kept.
use Rattle.std.proofs.Common.{◌≡◌, ℕ, ◌<◌, refl}
use Rattle.std.proofs.lemmas.Bool.{lt-ltb}
use Rattle.el_base.specs.Below.{below}

pub below_inside : (limit n : ℕ) → n < limit → below limit n ≡ n
below_inside limit n inside = rw (lt-ltb n limit inside) refl
