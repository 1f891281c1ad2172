-- a hart that acts outside of a section, and what its action makes of the parts where it runs
use Rattle.std.specs.Prelude.{ℕ, ◌≡◌, slice_set}
use Rattle.cache_sets.specs.Cached.{cached_byte}
use Rattle.cache_sets.specs.Slotted.{IsLent, Slotted, lent}
use Rattle.cached_step.specs.CacheRun.{HasRun}
use Rattle.el_model.specs.Plain.{PlainRule, plain_rule}
use Rattle.el_model.specs.State.{ModelState}
use Rattle.engine.specs.Acting.{ActsOutside, cache_in, sets_in}
use Rattle.engine.specs.Parts.{Parts, own_at, present_at}
use Rattle.hart_state.specs.Lending.{with_view}
use Rattle.line_pool.specs.Others.{LeavesOthers}
use Rattle.line_pool.specs.Pooled.{Pooled}
use Rattle.rv_alu.specs.Execution.{Execution, perform, store_in, view_after}
use Rattle.rv_alu.specs.Loaded.{loaded}
use Rattle.rv_alu.specs.declared.action.Action.{Action}
use Rattle.rv_flat.specs.Memory.{byte_in}
use Rattle.snoop.specs.Returned.{returned}

-- it acts so in some state
pub record OutsideSomewhere (parts : Parts) (h : ℕ) : Type 0 where
  pub from : ModelState
  pub acts : ActsOutside parts h from

-- this is its rule, whatever the state
abbrev pub IsItsRule : Parts → ℕ → PlainRule → Type 0
IsItsRule parts h rule = (from : ModelState) → ActsOutside parts h from → plain_rule from h ≡ rule

-- a hart that arms at the LR of a word finds this value in it, whatever the state
abbrev pub FindsWord : Parts → ℕ → ℕ → ℕ → Type 0
FindsWord parts h word old =
    (from : ModelState) → ActsOutside parts h from →
    old ≡ loaded (byte_in from.committed.base from.committed.bytes) word 4

-- what an action does over the hart's cache
abbrev pub execution_in : Parts → ℕ → Action → Execution
execution_in parts h action = perform action (present_at parts.harts h) (cached_byte (cache_in parts h))

-- an action ran over a hart's cache, in the pool of then: it lends that cache still, and leaves the slots of all others
pub record HasRunOver (parts : Parts) (h : ℕ) (action : Action) (pool : Pooled) (cache : Slotted) : Type 0 where
  pub has_run : HasRun (cache_in parts h) (lent pool cache) action (store_in (execution_in parts h action))
  pub kept : IsLent pool cache
  pub others : LeavesOthers (sets_in parts h).owner parts.pool pool
  pub owner : cache.owner ≡ (sets_in parts h).owner

-- it ran: the hart has its new view, and its cache is what the action has made of it
pub record RanIn (old new : Parts) (h : ℕ) (action : Action) : Type 0 where
  pub pool : Pooled
  pub cache : Slotted
  pub over : HasRunOver old h action pool cache
  pub new_is :
      new
      ≡ record old {
        pool = pool;
        bus = returned old.bus h cache;
        harts =
            slice_set old.harts h
            (with_view (own_at old.harts h) (view_after (execution_in old h action) (present_at old.harts h)));
      }
