-- Harts by their numbers.
use Rattle.std.specs.Prelude.{ℕ}
use Rattle.std.proofs.Common.{lit<}
use Rattle.el_base.specs.Below.{below, below_limit}
use Rattle.el_base.specs.declared.hart_id.HartId.{HartId}
use Rattle.el_base.specs.declared.hart_id.TheConstants.{MAX_HARTS}

-- the hart of this number; hart 0 where no hart has it
abbrev pub hart_id : ℕ → HartId
hart_id n = record { number = below MAX_HARTS n; small = below_limit MAX_HARTS n (lit< tt) }
