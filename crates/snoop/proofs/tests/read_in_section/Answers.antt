-- a bit leaves what the pool owes
use Rattle.snoop.proofs.tests.read_in_section.Goals as goal

pub invariant_of-memory-2 : goal.invariant_of-memory-2
invariant_of-memory-2 c = record { lent = c.mark.ensures.lent c.serve.new.pool c.serve.ensures.lent }
