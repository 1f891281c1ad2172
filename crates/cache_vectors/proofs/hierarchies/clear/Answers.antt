use Rattle.cache_vectors.proofs.hierarchies.clear.Goals as goal

pub invariant_of-memory : goal.invariant_of-memory
invariant_of-memory c = record { lent = c.clear.ensures.lent c.args.memory.now.pool c.args.memory.now.lent }
