-- what a call of one of a section and its cache leaves of the other, and of all other owners
use Rattle.std.proofs.Common.{◌≡◌, ◌≢◌, ℕ, sym, subst}
use Rattle.cache_sets.specs.Slotted as caches
use Rattle.cache_sets.proofs.Laws as cache_laws
use Rattle.section_view.proofs.Laws.Offered.{leaves_owner, leaves_owner-same, leaves_owner-then}
use Rattle.line_pool.specs.Others.{LeavesOthers}
use Rattle.line_pool.specs.Pooled.{Pooled}
use Rattle.section_ctl.specs.Lent.{LeavesBeside, LendsBoth}
use Rattle.write_hold.specs.Slotted as holds
use Rattle.write_hold.proofs.Laws as hold_laws

-- what a call that leaves all other owners than one of the two leaves, what none leaves, and one call after another
pub beside_hold : (cache hold : ℕ) (old new : Pooled) → LeavesOthers hold old new → LeavesBeside cache hold old new
beside_hold cache hold old new leaves owner from_cache from_hold = leaves_owner hold owner old new leaves from_hold

pub beside_cache : (cache hold : ℕ) (old new : Pooled) → LeavesOthers cache old new → LeavesBeside cache hold old new
beside_cache cache hold old new leaves owner from_cache from_hold = leaves_owner cache owner old new leaves from_cache

pub beside_same : (cache hold : ℕ) (pool : Pooled) → LeavesBeside cache hold pool pool
beside_same cache hold pool owner from_cache from_hold = leaves_owner-same owner pool

pub beside_then : (cache hold : ℕ) (old between new : Pooled) → LeavesBeside cache hold old between →
    LeavesBeside cache hold between new
    → LeavesBeside cache hold old new
beside_then cache hold old between new first second owner from_cache from_hold =
    leaves_owner-then owner old between new (first owner from_cache from_hold) (second owner from_cache from_hold)

-- a call of the hold leaves the cache
module _ (old new : Pooled) (cache : caches.Slotted) (hold : holds.Slotted) (owes : LendsBoth old cache hold)
    (leaves : LeavesOthers hold.owner old new) where
  pub cache_stays : caches.lent new cache ≡ caches.lent old cache
  cache_stays = cache_laws.lent-left hold.owner old new cache leaves owes.apart owes.cache_lent

  pub both_by_hold : (after : holds.Slotted) → holds.IsLent new after → after.owner ≡ hold.owner →
      LendsBoth new cache after
  both_by_hold after lends same = record {
    cache_lent = cache_laws.is_lent-left hold.owner old new cache leaves owes.apart owes.cache_lent;
    hold_lent = lends;
    apart = subst (λ owner. cache.owner ≢ owner) (sym same) owes.apart;
  }

-- and one of the cache the hold
module _ (old new : Pooled) (cache : caches.Slotted) (hold : holds.Slotted) (owes : LendsBoth old cache hold)
    (leaves : LeavesOthers cache.owner old new) where
  hold_apart : hold.owner ≢ cache.owner
  hold_apart same = owes.apart (sym same)

  pub hold_stays : holds.lent new hold ≡ holds.lent old hold
  hold_stays = hold_laws.lent-left cache.owner old new hold leaves hold_apart owes.hold_lent

  pub both_by_cache : (after : caches.Slotted) → caches.IsLent new after → after.owner ≡ cache.owner →
      LendsBoth new after hold
  both_by_cache after lends same = record {
    cache_lent = lends;
    hold_lent = hold_laws.is_lent-left cache.owner old new hold leaves hold_apart owes.hold_lent;
    apart = subst (λ owner. owner ≢ hold.owner) (sym same) owes.apart;
  }

-- a cache that changed, and no slot of it
pub both_same : (pool : Pooled) (cache after : caches.Slotted) (hold : holds.Slotted) → LendsBoth pool cache hold
    → (caches.IsLent pool cache → caches.IsLent pool after) → after.owner ≡ cache.owner → LendsBoth pool after hold
both_same pool cache after hold owes lends same = record {
  cache_lent = lends owes.cache_lent;
  hold_lent = owes.hold_lent;
  apart = subst (λ owner. owner ≢ hold.owner) (sym same) owes.apart;
}
