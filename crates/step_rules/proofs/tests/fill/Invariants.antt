-- the pool lends the cache
use Rattle.cache_sets.specs.Slotted.{IsLent}
use Rattle.step_rules.proofs.tests.fill.Given as goal

abbrev pub invariant-loop-line : goal.invariant-loop-line
invariant-loop-line l = IsLent l.pool l.sets
