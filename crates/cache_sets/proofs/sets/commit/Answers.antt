use Rattle.std.proofs.Common.{sym, subst, arith}
use Rattle.cache_sets.specs.Kept.{IsChanged, committed_way}
use Rattle.cache_sets.proofs.Sweeps.{changed-more}
use Rattle.cache_sets.proofs.sets.commit.Goals as goal

pub loop-set-preserved : goal.loop-set-preserved
loop-set-preserved c =
    let set = c.set-item.result in
    let new = c.commit_bits.new.self in
    changed-more committed_way c.loop-set.set-index c.args.sets.now c.loop-set.sets set new c.loop-set.invariant
    (omega (arith, c.loop-set-test.true, c.loop-set.invariant.count)) c.set-item.is
    (subst (λ s. IsChanged committed_way s new) (sym c.set-item.is)
    (record { lines = c.commit_bits.ensures.lines; room = c.commit_bits.ensures.room }))
