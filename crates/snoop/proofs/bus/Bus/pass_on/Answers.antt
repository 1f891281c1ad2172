use Rattle.std.proofs.Common.{◌≡◌, ◌+◌, ℕ, suc, arith, subst}
use Rattle.bus_agent.specs.Agent.{agent_at}
use Rattle.snoop.specs.Delivering.{passes, probe_sent}
use Rattle.snoop.specs.Shows.{bus_state}
use Rattle.snoop.proofs.Delivers.{PassesOn, one_passed}
use Rattle.snoop.proofs.bus.Bus.pass_on.Goals as goal

pub loop-number-preserved : goal.loop-number-preserved
loop-number-preserved c =
    let now = bus_state c.loop-number.self in
    let next = bus_state c.pass_one.new.self in
    let next_is : suc c.loop-number.number ≡ c.loop-number.number + 1 = omega arith in
    subst (PassesOn (bus_state c.args.self.now) next c.args.hart.number c.args.to.number c.args.line.number) next_is
    (one_passed (bus_state c.args.self.now) now next c.args.hart.number c.args.to.number c.args.line.number
    c.loop-number.number c.loop-number.invariant
    (omega (arith, c.loop-number-test.true, c.len-number-end.ensures))
    (subst (λ (k : ℕ). next ≡ record now {
      agents =
          probe_sent (passes (agent_at now.agents c.args.hart.number).told now.order c.args.to.number c.args.line.number
          k) k c.args.to.number now.agents;
    }) c.at.ensures c.pass_one.ensures))
