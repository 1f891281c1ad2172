use Rattle.cache_sets.specs.Kept.{cleared_way}
use Rattle.cache_sets.proofs.Sweeps.{AreChangedTo}
use Rattle.cache_sets.proofs.sets.clear.Given as goal

abbrev pub invariant-loop-set : goal.invariant-loop-set
invariant-loop-set l = AreChangedTo cleared_way l.set-index l.fn.sets l.sets
