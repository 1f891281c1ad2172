-- what the calls of a hart's section need of the parts, and make of them
use Rattle.std.specs.Prelude.{ℕ, ◌≡◌, ◌≤◌, ◌<◌, ◌+◌, ◌||◌, true, Option, IfSome, IsSome, is_some, length, slice_set}
use Rattle.cache_sets.specs.Slotted.{Slotted, lent}
use Rattle.el_model.specs.Upcoming.{Touch, touch_of}
use Rattle.engine.specs.Acting.{cache_in, sets_in}
use Rattle.engine.specs.Covered.{HasItsBitNow}
use Rattle.engine.specs.Parts.{Parts, own_at}
use Rattle.hart_state.specs.Deeds.{buffered_own, committed_own}
use Rattle.hart_state.specs.Own.{OwnState}
use Rattle.line_pool.specs.Pooled.{Pooled}
use Rattle.residency.specs.Cache.{write_bits_of}
use Rattle.rv_alu.specs.Footprint.{footprint}
use Rattle.rv_alu.specs.declared.action.Action.{Action}
use Rattle.section_ctl.specs.Calls.{HasCommitted, HasContinued, HasReleased, HasRun, IsCoveredIn, MayBuffer}
use Rattle.section_ctl.specs.Calls.{MayContinue, run_of}
use Rattle.section_ctl.specs.Lent.{LeavesBeside, LendsBoth}
use Rattle.section_ctl.specs.State.{SectionState, hold_in}
use Rattle.section_view.specs.KeptRun.{HoldsMarked}
use Rattle.section_view.specs.Release.{IsReleaseAction}
use Rattle.snoop.specs.Returned.{returned}
use Rattle.write_hold.specs.Slotted as holds

-- a hart's section, as it is kept
abbrev pub kept_of : Parts → ℕ → SectionState
kept_of parts h = (own_at parts.harts h).section

-- the hart and its cache are there, and the pool lends its cache and its stores
pub record IsLentThere (parts : Parts) (h : ℕ) : Type 0 where
  pub hart_exists : h < length parts.harts
  pub cache_exists : h < length parts.bus.copies.caches
  pub both : LendsBoth parts.pool (sets_in parts h) (kept_of parts h).hold

-- a cache and a hold after a call, in the pool of then: it lends them still, and leaves all other owners' slots
pub record IsLentStill (old new : Pooled) (sets cache : Slotted) (before after : holds.Slotted) : Type 0 where
  pub both : LendsBoth new cache after
  pub hold_owner : after.owner ≡ before.owner
  pub cache_owner : cache.owner ≡ sets.owner
  pub beside : LeavesBeside sets.owner before.owner old new

-- the parts with these in the place of a hart's
abbrev pub with_own : Parts → ℕ → Pooled → Slotted → OwnState → Parts
with_own parts h pool cache own =
    record parts { pool = pool; bus = returned parts.bus h cache; harts = slice_set parts.harts h own }

-- what is touched has its bit, and nothing else has changed
pub record HasCovered (old new : Parts) (h : ℕ) (touch : Option Touch) : Type 0 where
  pub cache : Slotted
  pub bit : HasItsBitNow (sets_in old h) cache touch
  pub new_is : new ≡ record old { bus = returned old.bus h cache }

-- an action may run in a hart's live or armed section
pub record MayRunPrivately (parts : Parts) (h : ℕ) (action : Action) : Type 0 where
  pub there : IsLentThere parts h
  pub either : (is_some (kept_of parts h).live || is_some (kept_of parts h).armed) ≡ true
  pub buffered : IfSome (kept_of parts h).live
      (λ section. MayBuffer parts.pool (kept_of parts h) section (cache_in parts h) action)
  pub counted : IfSome (kept_of parts h).live (λ section. section.count + 1 < 4294967296)
  pub quiet : IfSome (kept_of parts h).armed (λ reserved. MayContinue reserved action)
  pub marked : HoldsMarked (cache_in parts h).residency (hold_in parts.pool (kept_of parts h)).entries
  pub few : write_bits_of (cache_in parts h).residency ≤ (kept_of parts h).hold.limit

-- it ran over a cache
pub record RanOver (old new : Pooled) (sets cache : Slotted) (before after : SectionState)
    (action : Action) : Type 0 where
  pub ran : IfSome before.live
      (λ live. HasRun old new before after live (run_of old before live (lent old sets) action))
  pub continued : IfSome before.armed (λ reserved. HasContinued before after reserved action)
  pub covers : IsCoveredIn (lent old sets) (lent new cache) (touch_of (footprint action))
  pub still : IsLentStill old new sets cache before.hold after.hold

-- so in the parts
pub record RanPrivately (old new : Parts) (h : ℕ) (action : Action) : Type 0 where
  pub pool : Pooled
  pub cache : Slotted
  pub section : SectionState
  pub over : RanOver old.pool pool (sets_in old h) cache (kept_of old h) section action
  pub new_is : new ≡ with_own old h pool cache (buffered_own section (own_at old.harts h))

-- what is touched got its bit, and the action ran in the hart's live section over the cache that has it
pub record BuffersIn (old new : Parts) (h : ℕ) (touch : Option Touch) (action : Action) : Type 0 where
  pub marked : Slotted
  pub bit : HasItsBitNow (sets_in old h) marked touch
  pub pool : Pooled
  pub cache : Slotted
  pub section : SectionState
  pub over : RanOver old.pool pool marked cache (kept_of old h) section action
  pub new_is : new ≡ with_own old h pool cache (buffered_own section (own_at old.harts h))

-- a hart's live section may take effect, whose release this action is
pub record MayTakeEffect (parts : Parts) (h : ℕ) (action : Action) : Type 0 where
  pub there : IsLentThere parts h
  pub live : IsSome (kept_of parts h).live
  pub release : IfSome (kept_of parts h).live (λ section. IsReleaseAction section.word section.old action)
  pub marked : HoldsMarked (cache_in parts h).residency (hold_in parts.pool (kept_of parts h)).entries

-- it took effect in a cache
pub record CommitsOver (old new : Pooled) (sets cache : Slotted) (before after : SectionState)
    (action : Action) : Type 0 where
  pub released : IfSome before.live (λ live. HasReleased old before after live action)
  pub committed : HasCommitted (lent old sets) (lent new cache) (hold_in old before).entries
  pub still : IsLentStill old new sets cache before.hold after.hold

-- so in the parts
pub record CommitsIn (old new : Parts) (h : ℕ) (action : Action) : Type 0 where
  pub pool : Pooled
  pub cache : Slotted
  pub section : SectionState
  pub over : CommitsOver old.pool pool (sets_in old h) cache (kept_of old h) section action
  pub new_is : new ≡ with_own old h pool cache (committed_own section (own_at old.harts h))
