-- what one owner's calls leave to all others
use Rattle.std.specs.Prelude.{ℕ, ◌≡◌, ◌≢◌, true}
use Rattle.line_pool.specs.declared.slot.Slot.{Slot}
use Rattle.line_pool.specs.Pooled.{Pooled, bytes_of, has_slot, is_out, out_of, owner_of, quotas_of}

-- the slots of other owners, how many are out, and their bytes are as they were, and so are all quotas
pub record LeavesOthers (owner : ℕ) (old new : Pooled) : Type 0 where
  pub outs : (slot : Slot) → owner_of slot ≢ owner → is_out new slot ≡ is_out old slot
  pub counts : (other : ℕ) → other ≢ owner → out_of new other ≡ out_of old other
  pub bytes : (slot : Slot) → owner_of slot ≢ owner → has_slot old slot ≡ true → bytes_of new slot ≡ bytes_of old slot
  pub quotas : quotas_of new ≡ quotas_of old
