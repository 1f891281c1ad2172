-- Sets of harts.
use Rattle.std.specs.Prelude.{ℕ, Bool, ◌==◌, ◌&&◌, nat_lt}
use Rattle.std.specs.Int.{bit_at}
use Rattle.el_base.specs.declared.hart_id.TheConstants.{MAX_HARTS}
use Rattle.el_base.specs.declared.harts.Harts.{Harts}

-- whether the set has the hart of this number; no set has a hart beyond the last
abbrev pub has_hart : Harts → ℕ → Bool
has_hart harts h = nat_lt h MAX_HARTS && bit_at harts.bits h == 1
