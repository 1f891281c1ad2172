-- a bit leaves what the pool owes
use Rattle.snoop.proofs.serving.fill.Goals as goal

pub returns-then-live-clause-lent : goal.returns-then-live-clause-lent
returns-then-live-clause-lent c = c.mark.ensures.lent c.serve.new.pool c.serve.ensures.lent
