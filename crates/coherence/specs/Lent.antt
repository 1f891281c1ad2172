-- the caches of all harts, whose lines have their bytes in slots of one pool: what the pool owes
-- them, and what it keeps for others
use Rattle.std.specs.Prelude.{ℕ, ◌≡◌, ◌≤◌, ◌<◌, true, List, [], length, map, slice_index_or, slice_set}
use Rattle.cache_sets.specs.Cached.{Cached}
use Rattle.cache_sets.specs.Slotted.{IsLent, Slotted, lent}
use Rattle.line_pool.specs.declared.slot.Slot.{Slot}
use Rattle.line_pool.specs.Pooled.{Pooled, bytes_of, has_slot, is_out, out_of, owner_of, quota_of, quotas_of}

-- a cache of no hart, and a hart's cache, where the pool is not at hand
abbrev pub no_slotted : Slotted
no_slotted = record { ways = 0; residency = []; owner = 0; slots = [] }

abbrev pub slotted_at : List Slotted → ℕ → Slotted
slotted_at caches h = slice_index_or caches h no_slotted

-- the caches with the bytes that a pool has in their slots
abbrev pub lent_all : Pooled → List Slotted → List Cached
lent_all pool caches = map (lent pool) caches

-- what a pool owes to the caches of all harts, 8 at most: the cache of hart h has the slots of owner h, and is lent
pub record IsLentTo (pool : Pooled) (caches : List Slotted) : Type 0 where
  pub few : length caches ≤ 8
  pub owned : (h : ℕ) → h < length caches → (slotted_at caches h).owner ≡ h
  pub each : (h : ℕ) → h < length caches → IsLent pool (slotted_at caches h)

-- a pool from which the caches of so many harts may take so many slots each: none of theirs is out
pub record Offers (pool : Pooled) (harts slots : ℕ) : Type 0 where
  pub quota : (h : ℕ) → h < harts → quota_of pool h ≡ slots
  pub none_out : (h : ℕ) → h < harts → out_of pool h ≡ 0

-- what one owner has of a pool is as it was: its slots, how many are out, their bytes, and its quota
pub record LeavesOwner (owner : ℕ) (old new : Pooled) : Type 0 where
  pub outs : (slot : Slot) → owner_of slot ≡ owner → is_out new slot ≡ is_out old slot
  pub count : out_of new owner ≡ out_of old owner
  pub bytes : (slot : Slot) → owner_of slot ≡ owner → has_slot old slot ≡ true → bytes_of new slot ≡ bytes_of old slot
  pub quotas : quotas_of new ≡ quotas_of old

-- so for each owner that is no hart's cache
abbrev pub LeavesHolds : Pooled → Pooled → Type 0
LeavesHolds old new = (owner : ℕ) → 8 ≤ owner → LeavesOwner owner old new

-- one of the caches changed so, whatever pool it is in, and each pool that lent it lends it still
pub record IsReplacedIn (Becomes : Cached → Cached → Type 0) (h : ℕ) (old new : List Slotted) : Type 0 where
  pub cache : Slotted
  pub becomes : (pool : Pooled) → Becomes (lent pool (slotted_at old h)) (lent pool cache)
  pub kept : (pool : Pooled) → IsLent pool (slotted_at old h) → IsLent pool cache
  pub owner : cache.owner ≡ (slotted_at old h).owner
  pub new_is : new ≡ slice_set old h cache
