-- the harts so far have forgotten the origin's request
use Rattle.bus_agent.proofs.EachAgent.{AreChangedBelow}
use Rattle.bus_agent.proofs.agents.forget.Given as goal
use Rattle.bus_agent.specs.Agent.{agent_forgetting}

abbrev pub invariant-loop-number : goal.invariant-loop-number
invariant-loop-number l =
    AreChangedBelow (λ g. agent_forgetting l.origin.number) l.number l.initial.agents.items l.agents.items
