use Rattle.cache_sets.specs.Kept.{AreEmpty}
use Rattle.cache_sets.proofs.sets.empty_sets.Given as goal

-- the sets so far have no lines
abbrev pub invariant-loop : goal.invariant-loop
invariant-loop l = AreEmpty l.fn.ways l.counter l.sets.items
