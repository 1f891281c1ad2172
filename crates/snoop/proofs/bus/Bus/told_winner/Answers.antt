-- one origin before those that were looked at, and all of them
use Rattle.std.proofs.Common.{◌≡◌, ◌∙◌, ◌<◌, ◌-◌, ap, arith, drop, length}
use Rattle.bus_agent.specs.Agent.{agent_at}
use Rattle.snoop.specs.Fates.{told_from}
use Rattle.snoop.specs.Shows.{bus_state}
use Rattle.snoop.proofs.Facing.{told_before, winner_is_told}
use Rattle.snoop.proofs.bus.Bus.told_winner.Goals as goal

pub loop-number-preserved : goal.loop-number-preserved
loop-number-preserved c =
    let bus = bus_state c.args.self.now in
    let inside : c.loop-number.number - 1 < length bus.agents = omega arith in (
      omega arith,
      told_before bus.agents (agent_at bus.agents c.args.hart.number) bus.order c.args.line.number c.loop-number.number
          (c.loop-number.number - 1) _ _
          (omega arith)
          inside
          c.loop-number.invariant.1
          (rw c.at.ensures at c.earlier_told-winner.ensures),
    )

pub returns : goal.returns
returns c = λ state shows.
    let bus = bus_state c.args.self.now in
    let all : c.loop-number.number ≡ 0 = omega arith in
    c.loop-number.invariant.1
    ∙ ap (λ n. told_from (agent_at bus.agents c.args.hart.number) bus.order c.args.line.number n (drop n bus.agents))
    all
    ∙ winner_is_told bus state c.args.hart.number c.args.line.number shows
