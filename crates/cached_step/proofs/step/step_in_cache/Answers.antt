-- what ran stored what its execution stores, and used its line
use Rattle.std.proofs.Common.{◌≡◌, Option, None, is_some, true}
use Rattle.std.specs.Prelude.{MatchOption}
use Rattle.cache_sets.specs.Cached.{Cached, cached_byte}
use Rattle.cache_sets.specs.Slotted.{lent}
use Rattle.core_step.specs.Run.{lacking}
use Rattle.core_step.proofs.Laws.Runs.{HasRanBy, ran_by}
use Rattle.rv_alu.specs.Execution.{Execution, perform, store_in}
use Rattle.rv_alu.specs.Footprint.{footprint}
use Rattle.cached_step.specs.CacheRun.{PutsInPool, permitted}
use Rattle.cached_step.proofs.Runs.{has_run, kept_put, others_put, put_lent}
use Rattle.cached_step.proofs.step.step_in_cache.Goals as goal

none_lacks : {A W : Type 0} (lack : Option W) → lack ≡ None → is_some lack ≡ true → A
none_lacks lack none some = absurd (cc)

pub returns-in_default : goal.returns-in_default
returns-in_default c =
    let cache = c.args.sets.now in
    let pool = c.args.pool.now in
    let after = c.run_over.new.pool in
    let old : Cached = lent pool cache in
    let execution : Execution = perform c.args.action c.args.view.now (cached_byte old) in
    let by : HasRanBy (permitted old) (footprint c.args.action) execution c.run_over.result =
    ran_by (permitted old) (footprint c.args.action) execution c.run_over.result c.run_over.ensures.ended
    c.in_default.not-Needs in
    let put : MatchOption (store_in execution) (after ≡ pool)
    (λ store. PutsInPool cache pool after store.address store.len store.value) =
    rw by.store at c.run_over.ensures.put in
    record {
      ended = c.run_over.ensures.ended;
      view = c.run_over.ensures.view;
      lacks = none_lacks (lacking (permitted old) (footprint c.args.action)) by.lacked;
      ran = λ none.
          has_run old (lent after cache) (lent after c.use_line.new.sets) c.args.action c.args.view.now
          (cached_byte old)
          (record { aligned = c.requires.aligned; permitted = none })
          (put_lent cache pool after (store_in execution) put)
          (rw c.footprint-access.ensures at (c.use_line.ensures.used after));
      lent = c.use_line.ensures.lent after (kept_put cache pool after (store_in execution) put c.requires.lent);
      others = others_put cache pool after (store_in execution) put;
      owner = c.use_line.ensures.owner;
    }
