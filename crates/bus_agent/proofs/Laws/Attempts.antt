-- an agent whose attempt has closed
use Rattle.std.proofs.Common.{◌≡◌, Option, None, Some, refl, ap}
use Rattle.bus_agent.specs.Agent.{agent_closed, agent_of, clock_after}
use Rattle.el_model.specs.Attempts.{close_attempt, closed_clock}
use Rattle.el_model.specs.State.{Hart}
use Rattle.stamp.specs.Stamps.{Stamp}

-- the agent of a hart whose attempt has closed
closed_at : (hart : Hart) (attempt : Option Stamp) →
    clock_after hart.clock hart.seen attempt ≡ closed_clock hart attempt
closed_at hart None = refl
closed_at hart (Some stamp) = refl

pub closed_agent : (hart : Hart) → agent_closed (agent_of hart) ≡ agent_of (close_attempt hart)
closed_agent hart = ap (λ clock. record (agent_of hart) { attempt = None; clock = clock }) (closed_at hart hart.attempt)
