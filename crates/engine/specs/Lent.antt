-- the pool of all lines: whose slots it has, and what it keeps for others as one hart's part changes
use Rattle.std.specs.Prelude.{ℕ, ◌≡◌, ◌≤◌, ◌<◌, ◌-◌, ◌*◌, if◌then◌else◌, nat_lt, List, Option, None, length, map}
use Rattle.std.specs.List.{range_with_len}
use Rattle.cache_sets.specs.Cached.{copy_in}
use Rattle.cache_sets.specs.Slotted as caches
use Rattle.coherence.specs.Lent.{LeavesOwner}
use Rattle.el_base.specs.declared.config.Config.{Config}
use Rattle.engine.specs.Parts.{hold_owner, own_at}
use Rattle.hart_state.specs.Own.{OwnState}
use Rattle.line_pool.specs.Pooled.{Pooled}
use Rattle.write_hold.specs.Slotted.{IsLent}

-- how many slots each of the 16 owners has: those of a hart's cache, and those of its buffered stores
abbrev pub quota_for : Config → ℕ → ℕ
quota_for config owner =
    if nat_lt owner 8 then (if nat_lt owner config.harts then config.sets * config.ways else 0)
    else (if nat_lt (owner - 8) config.harts then config.lines else 0)

abbrev pub first_quotas : Config → List ℕ
first_quotas config = map (quota_for config) (range_with_len 0 16)

-- a cache changed, and no copy in it: each pool that lent it lends it still
pub record KeepsCopies (old new : caches.Slotted) : Type 0 where
  pub owner : new.owner ≡ old.owner
  pub lent : (pool : Pooled) → caches.IsLent pool old → caches.IsLent pool new
  pub copies : (pool : Pooled) (line : ℕ) → copy_in (caches.lent pool new) line ≡ copy_in (caches.lent pool old) line

-- a pool lends the buffered stores of a hart, and of each
pub record LendsHold (pool : Pooled) (h : ℕ) (own : OwnState) : Type 0 where
  pub owner : own.section.hold.owner ≡ hold_owner h
  pub lent : IsLent pool own.section.hold

abbrev pub LendsHolds : Pooled → List OwnState → Type 0
LendsHolds pool harts = (h : ℕ) → h < length harts → LendsHold pool h (own_at harts h)

-- the caches' slots are left, and the stores' of each hart that has lost to none
pub record LeavesKept (lost : ℕ → Option ℕ) (old new : Pooled) : Type 0 where
  pub caches : (owner : ℕ) → owner < 8 → LeavesOwner owner old new
  pub holds : (h : ℕ) → lost h ≡ None → LeavesOwner (hold_owner h) old new

-- so far, and those of the harts from a number on
pub record LeavesKeptBelow (below : ℕ) (lost : ℕ → Option ℕ) (old new : Pooled) : Type 0 where
  pub kept : LeavesKept lost old new
  pub above : (h : ℕ) → below ≤ h → LeavesOwner (hold_owner h) old new
