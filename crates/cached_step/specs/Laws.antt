-- what a run over a cache promises of plain shared memory
use Rattle.std.specs.Prelude.{ℕ, ◌≡◌, ◌≢◌, ◌≤◌, false, true, List, length, Option, None, Some}
use Rattle.residency.specs.Cache as caches
use Rattle.residency.specs.Cache.{has_marks}
use Rattle.cache_sets.specs.Cached.{Cached, cached_byte}
use Rattle.residency.specs.Residency.{Way}
use Rattle.residency.specs.WellFormed.{IsWellFormed}
use Rattle.coherence.specs.Beginning.{LiesWhere}
use Rattle.coherence.specs.Caches.{cache_at}
use Rattle.coherence.specs.GivenBack.{copies_with}
use Rattle.coherence.specs.Served.{Copies, HasLine}
use Rattle.core_step.specs.Run.{ended_of, lacking}
use Rattle.core_step.specs.declared.ended.Ended.{Ended}
use Rattle.core_step.specs.declared.ended.Ended.TheVariants.{Needs}
use Rattle.el_base.specs.LineAddr.{line_addr}
use Rattle.el_base.specs.declared.line.LineAddr.{LineAddr}
use Rattle.el_base.specs.declared.outcomes.Need.{Need}
use Rattle.el_model.specs.Plain.{Arms, Begins, Misses, PlainRule, Runs, touch_rule}
use Rattle.el_model.specs.State.{ModelState, cache_of}
use Rattle.el_model.specs.Upcoming.{Touch, next_touch, touch_of}
use Rattle.rv_alu.specs.Execution.{Execution, Store, perform, store_in}
use Rattle.rv_alu.specs.Footprint.{AgreeOn, IsInPlace, footprint}
use Rattle.rv_alu.specs.declared.action.Action.{Action}
use Rattle.rv_alu.specs.declared.view.HartView.{HartView}
use Rattle.rv_flat.specs.FlatState.{FlatState, room_of, span_of, view_of}
use Rattle.rv_flat.specs.Memory.{byte_in}
use Rattle.rv_flat.specs.Step.{action_of, applied, execution_of}
use Rattle.cached_step.specs.CacheRun.{HasRun, permitted}
use Rattle.cached_step.specs.Memory.{TellsMemory}

-- how the rule of a step shows in how its action ends: a rule that runs it in no need, and one that
-- misses in the need of that line
abbrev pub ShowsRule : Ended → PlainRule → Type 0
ShowsRule ended (Runs touch) = (line : LineAddr) (need : Need) → ended ≢ Needs line need
ShowsRule ended (Misses line need) = ended ≡ Needs (line_addr line) need
ShowsRule ended (Begins swap) = ⊥
ShowsRule ended (Arms word) = ⊥

-- a hart's next instruction ends over its cache as the rule says for what it touches
abbrev pub StepsShowTheirRule : Type 0
StepsShowTheirRule = (state : ModelState) (h : ℕ) (cache : Cached) (execution : Execution) (ended : Ended) →
    cache.residency ≡ cache_of state h →
    ended ≡ ended_of (lacking (permitted cache) (footprint (action_of state.committed (view_of state.committed h))))
    execution → ShowsRule ended (touch_rule state h (next_touch state.committed h))

-- the bytes that an action touches are in the hart's cache those of memory, where its letters permit the action
abbrev pub CachedBytesEqualMemory : Type 0
CachedBytesEqualMemory = (copies : Copies) (flat : FlatState) (h room : ℕ) (action : Action) →
    TellsMemory copies flat → IsInPlace (span_of flat) room action →
    lacking (permitted (cache_at copies.caches h)) (footprint action) ≡ None →
    AgreeOn (footprint action) (cached_byte (cache_at copies.caches h)) (byte_in flat.base flat.bytes)

-- then its next instruction does over the cache what it does on plain memory
abbrev pub PermittedStepsAreFlat : Type 0
PermittedStepsAreFlat = (copies : Copies) (flat : FlatState) (h : ℕ) (view : HartView) →
    TellsMemory copies flat → IsInPlace (span_of flat) (room_of flat) (action_of flat view) →
    lacking (permitted (cache_at copies.caches h)) (footprint (action_of flat view)) ≡ None →
    perform (action_of flat view) view (cached_byte (cache_at copies.caches h)) ≡ execution_of flat view

-- after an action ran over a cache, caches and main memory tell the bytes of memory after it
abbrev pub CachesTellMemoryAfter : Type 0
CachesTellMemoryAfter =
    (copies : Copies) (flat : FlatState) (h room : ℕ) (new : Cached) (action : Action) (view : HartView)
    (byte : ℕ → ℕ) → TellsMemory copies flat → IsInPlace (span_of flat) room action →
    HasRun (cache_at copies.caches h) new action (store_in (perform action view byte)) →
    TellsMemory (copies_with copies h new) (applied flat h view (perform action view byte))

-- the line that an action touches lies in memory
abbrev pub TouchedLinesAreThere : Type 0
TouchedLinesAreThere = (copies : Copies) (flat : FlatState) (room : ℕ) (action : Action) (touch : Touch) →
    LiesWhere copies.first (length copies.lines) flat → IsInPlace (span_of flat) room action →
    touch_of (footprint action) ≡ Some touch → HasLine copies touch.line

-- a cache stays well formed, and has marks where it had them
pub record StaysInForm (old new : Cached) : Type 0 where
  pub well_formed : IsWellFormed new.ways new.residency
  pub marks : has_marks new.residency ≡ has_marks old.residency

abbrev pub RunsKeepTheForm : Type 0
RunsKeepTheForm = (old new : Cached) (action : Action) (store : Option Store) →
    IsWellFormed old.ways old.residency → HasRun old new action store → StaysInForm old new

-- a cache without marks has room for any line
abbrev pub UnmarkedCachesHaveRoom : Type 0
UnmarkedCachesHaveRoom = (ways : ℕ) (cache : List (List Way)) (line : ℕ) →
    1 ≤ ways → has_marks cache ≡ false → caches.room_of ways cache line ≡ true
