-- one hart's cache whose lines have their bytes in slots of a pool
use Rattle.std.specs.Prelude.{ℕ, ◌≡◌, ◌*◌, ◌==◌, if◌then◌else◌, List, [], ◌∷◌, length, map, replicate, slice_index_or}
use Rattle.std.specs.List.{flat_map}
use Rattle.line_pool.specs.declared.slot.Slot.{Slot}
use Rattle.line_pool.specs.Keeping.{Keeps}
use Rattle.line_pool.specs.Others.{LeavesOthers}
use Rattle.line_pool.specs.Pooled.{Pooled, no_slot, quota_of}
use Rattle.line_pool.specs.Pooled as pools
use Rattle.residency.specs.Residency.{Way}
use Rattle.residency.specs.Cache.{empty_cache, set_number, set_of}
use Rattle.cache_sets.specs.Cached.{Cached, with_bytes}
use Rattle.cache_sets.specs.Calls.{IsWritten}

-- a cache as contracts see it where its pool is not at hand
pub record Slotted : Type 0 where
  -- how many ways a set has
  pub ways : ℕ
  -- the lines of each set, most recent first
  pub residency : List (List Way)
  -- the owner of the slots, and the slot of each line, in the same order
  pub owner : ℕ
  pub slots : List (List Slot)

-- all slots of a cache
abbrev pub slots_of : Slotted → List Slot
slots_of cache = flat_map (λ set. set) cache.slots

-- the cache with the bytes that a pool has in its slots
abbrev pub lent : Pooled → Slotted → Cached
lent pool cache = record {
  ways = cache.ways;
  residency = cache.residency;
  bytes = map (λ set. map (λ slot. pools.bytes_of pool slot) set) cache.slots;
}

-- what a lent cache owes its pool: its owner may have as many slots as the cache has ways in all sets, and those that
-- are out are the ones of its lines
pub record IsLent (pool : Pooled) (cache : Slotted) : Type 0 where
  pub quota : quota_of pool cache.owner ≡ length cache.residency * cache.ways
  pub keeps : Keeps pool cache.owner (slots_of cache)

-- a cache of so many sets of so many ways, without lines
abbrev pub empty_slotted : ℕ → ℕ → ℕ → Slotted
empty_slotted ways sets owner =
    record { ways = ways; residency = empty_cache sets; owner = owner; slots = replicate sets [] }

-- the slot of a line of a set, of which the slots are given in the order of its lines
abbrev pub slot_in : List Way → List Slot → ℕ → Slot
slot_in [] slots line = no_slot
slot_in (way ∷ ways) [] line = no_slot
slot_in (way ∷ ways) (slot ∷ slots) line = if way.line == line then slot else slot_in ways slots line

-- the slot of a line
abbrev pub slot_of : Slotted → ℕ → Slot
slot_of cache line =
    slot_in (set_of cache.residency line) (slice_index_or cache.slots (set_number cache.residency line) []) line

-- a line of a cache got these bytes in its pool
pub record IsWrittenIn (old new : Pooled) (cache : Slotted) (line : ℕ) (bytes : List ℕ) : Type 0 where
  pub with_them : lent new cache ≡ with_bytes (lent old cache) line bytes
  pub written : IsWritten (lent old cache) (lent new cache) line bytes
  pub kept : IsLent new cache
  pub others : LeavesOthers cache.owner old new
