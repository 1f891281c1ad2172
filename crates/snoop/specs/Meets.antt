-- the bits of a cache that a request meets
use Rattle.std.specs.Prelude.{ℕ, Bool, List}
use Rattle.residency.specs.Cache.{has_bit, write_bit}
use Rattle.residency.specs.Residency.{Way}
use Rattle.el_base.specs.declared.outcomes.Need.{Need}
use Rattle.el_base.specs.declared.outcomes.Need.TheVariants.{Read, Write}

-- whether a cache has a bit that a request of this need conflicts with
abbrev pub meets_in : List (List Way) → ℕ → Need → Bool
meets_in cache line Write = has_bit cache line
meets_in cache line Read = write_bit cache line
