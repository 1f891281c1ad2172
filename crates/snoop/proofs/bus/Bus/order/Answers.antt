-- the request that a hart has raised is its own
use Rattle.std.proofs.Common.{◌≡◌, Some, subst, sym}
use Rattle.bus_agent.specs.Agent.{agent_at}
use Rattle.bus_order.specs.Order.{numbered}
use Rattle.snoop.proofs.bus.Bus.order.Goals as goal
use Rattle.snoop.specs.Shows.{bus_state}

pub place-requires-clause-raised : goal.place-requires-clause-raised
place-requires-clause-raised g c =
    let bus = bus_state c.args.self.now in
    let request = numbered c.in-Some.request in
    let raised : (agent_at bus.agents c.args.hart.number).raised ≡ Some request =
    sym (subst (λ agent. Some request ≡ agent.raised) c.agent.ensures c.in-Some.ensures) in
    subst (λ h. (agent_at bus.agents h).raised ≡ Some request)
    (sym (c.requires.ready.raised c.args.hart.number request raised).own) raised
