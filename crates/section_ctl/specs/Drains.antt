-- held lines that are drained into a cache, one after another
use Rattle.std.specs.Prelude.{ℕ, ◌≡◌, ◌<◌, true, false, length}
use Rattle.cache_sets.specs.Cached.{Cached, bytes_of, copy_in}
use Rattle.cache_sets.specs.Calls.{IsWritten}
use Rattle.cache_sets.specs.Slotted as caches
use Rattle.el_base.specs.declared.line.TheConstants.{LINE_BYTES}
use Rattle.line_pool.specs.Pooled.{Pooled}
use Rattle.section_ctl.specs.Lent.{LeavesBeside, LendsBoth}
use Rattle.write_hold.specs.Calls.{IsDrained}
use Rattle.write_hold.specs.Held.{Held, holds, seen_at}
use Rattle.write_hold.specs.Slotted as slotted

-- some lines of a hold were drained into a cache: it shows what it showed
pub record AreDrained (hold now : Held) (cache filled : Cached) : Type 0 where
  pub limit : now.limit ≡ hold.limit
  pub ways : filled.ways ≡ cache.ways
  pub residency : filled.residency ≡ cache.residency
  -- what is held was held
  pub within : (line : ℕ) → holds now.entries line ≡ true → holds hold.entries line ≡ true
  pub shows : (line place : ℕ) → holds hold.entries line ≡ true → place < LINE_BYTES →
      seen_at now.entries line (bytes_of filled line) place ≡ seen_at hold.entries line (bytes_of cache line) place
  -- a line that was drained has all its bytes
  pub size : (line : ℕ) → holds hold.entries line ≡ true → holds now.entries line ≡ false →
      length (bytes_of filled line) ≡ LINE_BYTES
  pub others : (line : ℕ) → holds hold.entries line ≡ false → copy_in filled line ≡ copy_in cache line

-- so in a pool, which lends the hold and the cache still, and leaves what all other owners have
pub record AreDrainedIn (cache : caches.Slotted) (old new : Pooled) (before after : slotted.Slotted) : Type 0 where
  pub drained : AreDrained (slotted.lent old before) (slotted.lent new after) (caches.lent old cache)
      (caches.lent new cache)
  pub lent : LendsBoth new cache after
  pub owner : after.owner ≡ before.owner
  pub beside : LeavesBeside cache.owner before.owner old new

-- one line was drained: what was held of it was merged into its bytes, and the cache has them
pub record IsDrainedInto (hold now : Held) (cache filled : Cached) (line : ℕ) : Type 0 where
  pub drained : IsDrained hold now line (bytes_of cache line) (bytes_of filled line)
  pub whole : length (bytes_of filled line) ≡ LINE_BYTES
  pub written : IsWritten cache filled line (bytes_of filled line)

-- so in a pool
pub record IsDrainedIn (cache : caches.Slotted) (old new : Pooled) (before after : slotted.Slotted)
    (line : ℕ) : Type 0 where
  pub drained : IsDrainedInto (slotted.lent old before) (slotted.lent new after) (caches.lent old cache)
      (caches.lent new cache) line
  pub lent : LendsBoth new cache after
  pub owner : after.owner ≡ before.owner
  pub beside : LeavesBeside cache.owner before.owner old new
