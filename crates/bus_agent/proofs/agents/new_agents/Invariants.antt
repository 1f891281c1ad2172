-- an agent for each hart so far
use Rattle.std.proofs.Common.{◌≡◌, replicate}
use Rattle.bus_agent.proofs.agents.new_agents.Given as goal
use Rattle.bus_agent.specs.Agent.{new_agent}

abbrev pub invariant-loop-hart : goal.invariant-loop-hart
invariant-loop-hart l = l.agents.items ≡ replicate l._hart new_agent
