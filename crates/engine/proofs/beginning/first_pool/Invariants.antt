-- the quotas so far
use Rattle.engine.proofs.Quotas.{AreQuotas}
use Rattle.engine.proofs.beginning.first_pool.Given as goal

abbrev pub invariant-loop-owner : goal.invariant-loop-owner
invariant-loop-owner l = AreQuotas l.config l.owner l.quotas
