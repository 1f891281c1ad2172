use Rattle.cache_sets.specs.Kept.{committed_way}
use Rattle.cache_sets.proofs.Sweeps.{AreChangedTo}
use Rattle.cache_sets.proofs.sets.commit.Given as goal

abbrev pub invariant-loop-set : goal.invariant-loop-set
invariant-loop-set l = AreChangedTo committed_way l.set-index l.fn.sets l.sets
