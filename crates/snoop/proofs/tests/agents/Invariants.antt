-- no agent so far has raised a request, or is armed
use Rattle.std.proofs.Common.{◌≡◌, ◌≤◌, ℕ, None}
use Rattle.bus_agent.specs.Agent.{agent_at}
use Rattle.snoop.proofs.tests.agents.Given as goal

abbrev pub invariant-loop-number : goal.invariant-loop-number
invariant-loop-number l =
    ((h : ℕ) → (agent_at l.agents.items h).raised ≡ None) × ((h : ℕ) → (agent_at l.agents.items h).armed ≤ 15)
