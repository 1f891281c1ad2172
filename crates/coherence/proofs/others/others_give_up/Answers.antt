-- one hart after another
use Rattle.std.proofs.Common.{◌∙◌, ◌<◌, length, refl, subst, sym}
use Rattle.cache_sets.specs.Slotted.{IsLent}
use Rattle.coherence.proofs.Laws.Fetched.{indexed}
use Rattle.coherence.proofs.GivingUp.{all_there, gave_one, passed_by}
use Rattle.coherence.proofs.others.others_give_up.Goals as goal
use Rattle.coherence.proofs.others.others_give_up.Goals.{then-number-from, else-number-from}

pub give_up-requires : goal.give_up-requires
give_up-requires c =
    let so_far = c.loop-number.invariant in
    let number = c.loop-number.number in
    let caches = c.loop-number.caches.items in
    let pool = c.loop-number.pool in
    let inside : number < length caches =
    all_there c.args.need c.args.hart.number c.args.line.number number c.args.pool.now pool
    c.args.caches.now.items caches so_far
    c.len-number-end.result (c.len-number-end.ensures ∙ c.args.caches.now.ok.0) c.loop-number-test.true in
    subst (IsLent pool)
    (sym (indexed caches number number c.index_mut.result.now c.index_mut.ensures.value refl inside))
    (so_far.owed.each number inside)

pub loop-number-preserved : goal.loop-number-preserved
loop-number-preserved c =
    let so_far = c.loop-number.invariant in
    let need = c.args.need in
    let h = c.args.hart.number in
    let line = c.args.line.number in
    let number = c.loop-number.number in
    let first = c.args.pool.now in
    let old = c.args.caches.now.items in
    let caches = c.loop-number.caches.items in
    let pool = c.loop-number.pool in
    let inside : number < length caches =
    all_there need h line number first pool old caches so_far c.len-number-end.result (c.len-number-end.ensures
    ∙ c.args.caches.now.ok.0) c.loop-number-test.true in
    elim c.if-number-from.branch [
      | then-number-from w ↦
          rw (w.pool-is, w.caches-is)
          (gave_one need h line number first pool old caches so_far w.give_up.new.pool w.index_mut.result.now
          w.give_up.new.cache
          (λ same. w.if-number-from.true (same ∙ sym c.from.ensures)) inside
          (indexed caches number number w.index_mut.result.now w.index_mut.ensures.value refl inside)
          w.give_up.ensures.gives
          w.give_up.ensures.lent w.give_up.ensures.others w.give_up.ensures.owner)
      | else-number-from w ↦
          rw (w.pool-is, w.caches-is)
          (passed_by need h line number first pool old caches so_far (w.if-number-from.false ∙ c.from.ensures))
    ]
