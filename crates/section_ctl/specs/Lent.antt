-- the slots that a hart's section and its cache have of one pool
use Rattle.std.specs.Prelude.{ℕ, ◌≡◌, ◌≢◌, Option, MatchOption}
use Rattle.cache_sets.specs.Slotted as caches
use Rattle.section_view.specs.Lent.{LeavesOwner}
use Rattle.line_pool.specs.Others.{LeavesOthers}
use Rattle.line_pool.specs.Pooled.{Pooled}
use Rattle.rv_alu.specs.Execution.{Store}
use Rattle.section_ctl.specs.Calls.{IsPutInto}
use Rattle.write_hold.specs.Slotted as holds

-- what a pool owes a hart's section and its cache: it lends both, to two owners
pub record LendsBoth (pool : Pooled) (cache : caches.Slotted) (hold : holds.Slotted) : Type 0 where
  pub cache_lent : caches.IsLent pool cache
  pub hold_lent : holds.IsLent pool hold
  pub apart : cache.owner ≢ hold.owner

-- the low bytes of a value were stored into a lent hold: the pool lends both still, and
-- leaves what all other owners have
pub record IsPutInPool (cache : caches.Slotted) (old new : Pooled) (before after : holds.Slotted)
    (address len value : ℕ) : Type 0 where
  pub put : IsPutInto (holds.lent old before) (holds.lent new after) address len value
  pub lent : LendsBoth new cache after
  pub owner : after.owner ≡ before.owner
  pub others : LeavesOthers before.owner old new

-- so by a store, if there is one, and else nothing has changed
abbrev pub MayPut : caches.Slotted → Pooled → Pooled → holds.Slotted → holds.Slotted → Option Store → Type 0
MayPut cache old new before after store =
    MatchOption store ((new ≡ old) × (after ≡ before))
    (λ s. IsPutInPool cache old new before after s.address s.len s.value)

-- a pool leaves to every owner but these two what that one has
abbrev pub LeavesBeside : ℕ → ℕ → Pooled → Pooled → Type 0
LeavesBeside cache_owner hold_owner old new =
    (owner : ℕ) → owner ≢ cache_owner → owner ≢ hold_owner → LeavesOwner owner old new
