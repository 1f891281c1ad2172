-- a hold of which each line has its bytes in a slot of a pool
use Rattle.std.specs.Prelude.{ℕ, ◌≡◌, ◌<◌, List, length, map}
use Rattle.line_pool.specs.declared.slot.Slot.{Slot}
use Rattle.line_pool.specs.Keeping.{Keeps}
use Rattle.line_pool.specs.Pooled.{Pooled, bytes_of, quota_of, quotas_of}
use Rattle.write_hold.specs.Held.{Entry, Held}

-- a line that is held: a byte was stored at each place whose bit is set in the mask, and the slot has it
pub record Place : Type 0 where
  pub line : ℕ
  pub mask : ℕ
  pub slot : Slot

-- a hold as contracts see it where its pool is not at hand
pub record Slotted : Type 0 where
  pub limit : ℕ
  -- the owner of the slots
  pub owner : ℕ
  pub entries : List Place

-- a line, and a hold, with the bytes that a pool has in its slots
abbrev pub lent_entry : Pooled → Place → Entry
lent_entry pool place = record { line = place.line; mask = place.mask; bytes = bytes_of pool place.slot }

abbrev pub lent : Pooled → Slotted → Held
lent pool hold = record { limit = hold.limit; entries = map (lent_entry pool) hold.entries }

-- all slots of a hold
abbrev pub slots_of : Slotted → List Slot
slots_of hold = map (λ place. place.slot) hold.entries

-- what a lent hold owes its pool: its owner may have as many slots as it may hold lines, and those that are out are the
-- ones of its lines
pub record IsLent (pool : Pooled) (hold : Slotted) : Type 0 where
  pub there : hold.owner < length (quotas_of pool)
  pub quota : quota_of pool hold.owner ≡ hold.limit
  pub keeps : Keeps pool hold.owner (slots_of hold)
