-- a probe goes on to the harts that are before the one that has it
use Rattle.std.specs.Prelude.{ℕ, ◌≡◌, ◌<◌, ◌==◌, ◌&&◌, not, List, length, if◌then◌else◌}
use Rattle.bus_agent.specs.Agent.{Agent, agent_at, agent_posted}
use Rattle.defer_list.specs.HartSet.{has}
use Rattle.mail.specs.Mailbox.{Probe}

-- a probe of an origin is forwarded to a hart that is before the one that has it, and is not the origin itself
abbrev pub agent_forwarded : List ℕ → ℕ → ℕ → Agent → Agent
agent_forwarded upstream origin g agent =
    if not (g == origin) && has upstream g then agent_posted (Probe origin) agent else agent

pub record AreForwarded (upstream : List ℕ) (origin : ℕ) (old new : List Agent) : Type 0 where
  pub count : length new ≡ length old
  pub each : (g : ℕ) → g < length old → agent_at new g ≡ agent_forwarded upstream origin g (agent_at old g)
