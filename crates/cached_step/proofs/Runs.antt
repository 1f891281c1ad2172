-- what a run makes of a cache: its store, and then the use of its line
use Rattle.std.proofs.Common.{◌≡◌, ◌∙◌, ℕ, Option, None, Some, option_map, ap, refl, subst, sym, true}
use Rattle.std.specs.Prelude.{MatchOption}
use Rattle.residency.specs.Cache.{is_resident, lettered, touched}
use Rattle.cache_sets.specs.Cached.{Cached, copy_in, copy_with_bytes, copy_with_letter}
use Rattle.cache_sets.specs.Calls.{IsTouched}
use Rattle.cache_sets.specs.Slotted.{IsLent, Slotted, lent}
use Rattle.coherence.proofs.Laws.Fetched.{copy_resident}
use Rattle.coherence.proofs.Laws.GivenBackLaws.{writable_there}
use Rattle.coherence.proofs.Laws.Owners.{copy_is}
use Rattle.core_step.specs.Run.{IsReady}
use Rattle.core_step.proofs.Laws.Runs.{store_ready}
use Rattle.el_base.specs.Line.{line_number}
use Rattle.el_base.specs.declared.outcomes.Need.TheVariants as needs
use Rattle.el_model.specs.Plain.{after_touch}
use Rattle.el_model.specs.Upcoming.{touch_of}
use Rattle.line_pool.specs.Others.{LeavesOthers}
use Rattle.line_pool.specs.Pooled.{Pooled}
use Rattle.line_pool.proofs.Laws.OtherLaws.{leaves-same}
use Rattle.moesi.specs.declared.letter.Letter.TheVariants.{M}
use Rattle.rv_alu.specs.Execution.{Store, perform, store_in}
use Rattle.rv_alu.specs.Footprint.{footprint}
use Rattle.rv_alu.specs.declared.action.Action.{Action}
use Rattle.rv_alu.specs.declared.action.Action.TheVariants as actions
use Rattle.rv_alu.specs.declared.view.HartView.{HartView}
use Rattle.cached_step.specs.CacheRun.{HasRun, IsModified, IsUsed, PutsIn, PutsInPool, line_after, permitted}

-- a line of which the copy is as it was is there still
pub stays_resident : (old new : Cached) (line : ℕ) → copy_in new line ≡ copy_in old line →
    is_resident old.residency line ≡ true → is_resident new.residency line ≡ true
stays_resident old new line same there = copy_resident new line _ (same ∙ copy_is old line there)

-- what a store, if there was one, made of the cache and of its pool
module _ (cache : Slotted) (old new : Pooled) where
  abbrev pub MayPut : Option Store → Type 0
  MayPut store = MatchOption store (new ≡ old) (λ s. PutsInPool cache old new s.address s.len s.value)

  pub put_lent : (store : Option Store) → MayPut store →
      MatchOption store (lent new cache ≡ lent old cache)
      (λ s. PutsIn (lent old cache) (lent new cache) s.address s.len s.value)
  put_lent None same = ap (λ pool. lent pool cache) same
  put_lent (Some store) put = put.puts

  pub kept_put : (store : Option Store) → MayPut store → IsLent old cache → IsLent new cache
  kept_put None same owed = subst (λ pool. IsLent pool cache) (sym same) owed
  kept_put (Some store) put owed = put.kept

  pub others_put : (store : Option Store) → MayPut store → LeavesOthers cache.owner old new
  others_put None same = subst (LeavesOthers cache.owner old) (sym same) (leaves-same cache.owner old)
  others_put (Some store) put = put.others

-- nothing was touched
untouched : (old mid new : Cached) (action : Action) → mid ≡ old → new ≡ mid → touch_of (footprint action) ≡ None →
    HasRun old new action None
untouched old mid new action same still none = record {
  ways = ap (λ cache. cache.ways) (still ∙ same);
  residency = ap (λ cache. cache.residency) (still ∙ same) ∙ sym (ap (after_touch old.residency) none);
  copies = λ line. ap (λ cache. copy_in cache line) (still ∙ same);
}

-- a line was read
was_read : (old mid new : Cached) (action : Action) (line : ℕ) → mid ≡ old → IsTouched mid new line →
    after_touch old.residency (touch_of (footprint action)) ≡ touched old.residency line → HasRun old new action None
was_read old mid new action line same used after = record {
  ways = used.ways ∙ ap (λ cache. cache.ways) same;
  residency = used.residency ∙ ap (λ cache. touched cache.residency line) same ∙ sym after;
  copies = λ l. used.copies l ∙ ap (λ cache. copy_in cache l) same;
}

-- a line was written
was_written : (old mid new : Cached) (action : Action) (store : Store) →
    permitted old (line_number store.address) needs.Write ≡ true → PutsIn old mid store.address store.len store.value →
    IsModified mid new (line_number store.address) → after_touch old.residency (touch_of (footprint action))
    ≡ lettered (touched old.residency (line_number store.address)) (line_number store.address) M →
    HasRun old new action (Some store)
was_written old mid new action store may puts modified after = record {
  ways = modified.ways ∙ puts.ways;
  residency =
      modified.residency
      ∙ ap (λ cache. lettered (touched cache (line_number store.address)) (line_number store.address) M) puts.residency
      ∙ sym after;
  copies = record {
    may = may;
    here =
        modified.here
        ∙ ap (option_map (copy_with_letter M))
        (puts.here
        ∙ ap (option_map (copy_with_bytes (line_after old store.address store.len store.value)))
        (copy_is old (line_number store.address) (writable_there old (line_number store.address) may)));
    others = λ l other. modified.others l other ∙ puts.others l other;
  };
}

-- an action that was permitted has run
pub has_run : (old mid new : Cached) (action : Action) (view : HartView) (byte : ℕ → ℕ) →
    IsReady (permitted old) action →
    MatchOption (store_in (perform action view byte)) (mid ≡ old)
    (λ store. PutsIn old mid store.address store.len store.value) → IsUsed (footprint action) mid new →
    HasRun old new action (store_in (perform action view byte))
has_run old mid new (actions.Append address len) view byte ready same used =
    was_read old mid new _ (line_number address) same used refl
has_run old mid new (actions.Load width rd address) view byte ready same used =
    was_read old mid new _ (line_number address) same used refl
has_run old mid new (actions.LoadReserved rd address) view byte ready same used =
    was_read old mid new _ (line_number address) same used refl
has_run old mid new (actions.Store address len value) view byte ready puts used =
    was_written old mid new _ _
    (store_ready (permitted old) (actions.Store address len value) view byte ready).permitted puts used refl
has_run old mid new (actions.StoreConditional rd address value) view byte ready puts used =
    was_written old mid new _ _
    (store_ready (permitted old) (actions.StoreConditional rd address value) view byte ready).permitted puts used refl
has_run old mid new (actions.Amo op rd address source) view byte ready puts used =
    was_written old mid new _ _
    (store_ready (permitted old) (actions.Amo op rd address source) view byte ready).permitted puts used refl
has_run old mid new (actions.Trap cause) view byte ready same used = untouched old mid new _ same used refl
has_run old mid new (actions.Exit code) view byte ready same used = untouched old mid new _ same used refl
has_run old mid new (actions.Put rd value) view byte ready same used = untouched old mid new _ same used refl
has_run old mid new (actions.JumpAndLink rd target) view byte ready same used = untouched old mid new _ same used refl
has_run old mid new (actions.Go target) view byte ready same used = untouched old mid new _ same used refl
has_run old mid new (actions.Answer value) view byte ready same used = untouched old mid new _ same used refl
has_run old mid new (actions.Fail rd) view byte ready same used = untouched old mid new _ same used refl
