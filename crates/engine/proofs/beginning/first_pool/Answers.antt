-- one quota more, and all of them
use Rattle.std.proofs.Common.{◌≡◌, subst, arith}
use Rattle.std.specs.Prelude.{IfOk}
use Rattle.engine.proofs.Quotas.{AreQuotas, all_quotas, more_quotas}
use Rattle.engine.proofs.beginning.first_pool.Goals as goal
use Rattle.line_pool.specs.Calls.{IsMade}

pub loop-owner-preserved : goal.loop-owner-preserved
loop-owner-preserved c =
    more_quotas c.args.config.now c.loop-owner.owner c.from.result c.quota_for.result c.loop-owner.quotas
    c.loop-owner.invariant
    c.loop-owner-test.true c.from.ensures c.quota_for.ensures

pub returns : goal.returns
returns c =
    let done : c.loop-owner.owner ≡ 16 = omega (arith, c.loop-owner-test.false, c.loop-owner.auto.owner-end) in
    subst (λ quotas. IfOk c.make.result (IsMade quotas))
    (all_quotas c.args.config.now c.loop-owner.quotas
    (subst (λ n. AreQuotas c.args.config.now n c.loop-owner.quotas) done c.loop-owner.invariant)) c.make.ensures
