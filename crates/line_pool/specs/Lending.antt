-- the loan of a slot's bytes
use Rattle.std.specs.Prelude.{ℕ, List}
use Rattle.std.specs.Borrow.{Array, Fml, Lends, MutBor, u8}
use Rattle.line_pool.specs.contracts.pool.Pool.{the_row}
use Rattle.line_pool.specs.declared.slot.Slot.{Slot}
use Rattle.line_pool.specs.Pooled.{Pooled, with_bytes}

-- the pool ends with what was last written there as the bytes of the slot
abbrev pub LendsBytes : MutBor Pooled → Slot → MutBor (List ℕ) → Fml
LendsBytes pool slot bytes = Lends the_row (Array u8 64) pool bytes (with_bytes pool.now slot)
