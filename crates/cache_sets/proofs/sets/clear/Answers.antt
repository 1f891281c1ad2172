use Rattle.std.proofs.Common.{sym, subst, arith}
use Rattle.cache_sets.specs.Kept.{IsChanged, cleared_way}
use Rattle.cache_sets.proofs.Sweeps.{changed-more}
use Rattle.cache_sets.proofs.sets.clear.Goals as goal

pub loop-set-preserved : goal.loop-set-preserved
loop-set-preserved c =
    let set = c.set-item.result in
    let new = c.clear_bits.new.self in
    changed-more cleared_way c.loop-set.set-index c.args.sets.now c.loop-set.sets set new c.loop-set.invariant
    (omega (arith, c.loop-set-test.true, c.loop-set.invariant.count)) c.set-item.is
    (subst (λ s. IsChanged cleared_way s new) (sym c.set-item.is)
    (record { lines = c.clear_bits.ensures.lines; room = c.clear_bits.ensures.room }))
