-- the harts so far have the probe, if they are to
use Rattle.bus_agent.proofs.EachAgent.{AreChangedBelow}
use Rattle.bus_agent.proofs.forwarding.forward_all.Given as goal
use Rattle.bus_agent.specs.Agent.{agent_at}
use Rattle.bus_agent.specs.Forwarding.{agent_forwarded}

abbrev pub invariant-loop-number : goal.invariant-loop-number
invariant-loop-number l =
    AreChangedBelow (agent_forwarded (agent_at l.initial.agents.items l.hart.number).upstream l.origin.number) l.number
    l.initial.agents.items l.agents.items
