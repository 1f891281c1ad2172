-- what the bus makes of its parts as a message is delivered
use Rattle.std.specs.Prelude.{ℕ, zero, suc, ◌≡◌, ◌==◌, ◌&&◌, Bool, true, false, not, List, [], ◌∷◌, map, filter, length}
use Rattle.std.specs.Prelude.{Option, None, Some, is_some}
use Rattle.bus_agent.specs.Agent.{Agent, agent_at, agent_behind, agent_heard, agent_posted, with_agent}
use Rattle.bus_agent.specs.Forwarding.{AreForwarded}
use Rattle.bus_order.specs.Order.{Request, request_of}
use Rattle.defer_list.specs.HartSet.{has}
use Rattle.el_model.specs.Conflicts.{stamp_in}
use Rattle.el_model.specs.State.{for_line}
use Rattle.mail.specs.Mailbox.{Message, Probe}
use Rattle.snoop.specs.Changing.{IsClearedAt}
use Rattle.snoop.specs.Settled.{in_removal}
use Rattle.snoop.specs.Shows.{BusState}

-- so many numbers from one on, ascending
abbrev pub numbers_from : ℕ → ℕ → List ℕ
numbers_from from zero = []
numbers_from from (suc count) = from ∷ numbers_from (suc from) count

-- whether a hart that was told of these is to pass an origin on to another: it is not that one
-- itself, and it is ordered on a line
abbrev pub passes : List ℕ → List Request → ℕ → ℕ → ℕ → Bool
passes told order to line origin =
    not (origin == to) && has told origin && is_some (for_line line (request_of order origin))

-- the agents after a hart was posted these messages, one after another
abbrev pub posts_sent : List Message → ℕ → List Agent → List Agent
posts_sent [] to agents = agents
posts_sent (message ∷ messages) to agents =
    posts_sent messages to (with_agent agents to (agent_posted message (agent_at agents to)))

-- the agents after a hart was sent a probe of an origin, if a test takes it
abbrev pub probe_sent : Bool → ℕ → ℕ → List Agent → List Agent
probe_sent true origin to agents = with_agent agents to (agent_posted (Probe origin) (agent_at agents to))
probe_sent false origin to agents = agents

-- and of those of these harts that it takes, one after another
abbrev pub probes_sent : (ℕ → Bool) → List ℕ → ℕ → List Agent → List Agent
probes_sent test [] to agents = agents
probes_sent test (origin ∷ others) to agents = probes_sent test others to (probe_sent (test origin) origin to agents)

-- the probes by which a hart passes on what it was told of the line of its own request
abbrev pub passed_on : BusState → ℕ → ℕ → Option Request → List Message
passed_on bus h to None = []
passed_on bus h to (Some own) =
    map Probe (filter (passes (agent_at bus.agents h).told bus.order to own.line) (numbers_from 0 (length bus.agents)))

-- the agents after a hart took a marker: its sender is before the hart from now on, and is sent a probe
-- of the hart and what it was told
abbrev pub marker_taken : BusState → ℕ → ℕ → List Agent
marker_taken bus h sender =
    posts_sent (Probe h ∷ passed_on bus h sender (request_of bus.order h)) sender
    (with_agent bus.agents h (agent_behind sender (agent_at bus.agents h)))

-- whether a hart is ordered on the line of a request, if there is one
abbrev pub asks_on : List Request → ℕ → Option Request → Bool
asks_on order h None = false
asks_on order h (Some request) = is_some (for_line request.line (request_of order h))

-- a probe is forwarded only where the hart that has it is itself ordered on the line of the origin's request
abbrev pub Forwards : Bool → List ℕ → ℕ → List Agent → List Agent → Type 0
Forwards true upstream origin old new = AreForwarded upstream origin old new
Forwards false upstream origin old new = new ≡ old

pub record IsForwarded (h origin : ℕ) (request : Option Request) (old new : BusState) : Type 0 where
  pub mode : new.mode ≡ old.mode
  pub copies : new.copies ≡ old.copies
  pub order : new.order ≡ old.order
  pub agents : Forwards (asks_on old.order h request) (agent_at old.agents h).upstream origin old.agents new.agents

-- a hart was told of an origin, and has lost its section to the origin's request
pub record IsLostTo (h origin : ℕ) (request : Option Request) (old new : BusState) : Type 0 where
  pub mode : new.mode ≡ old.mode
  pub order : new.order ≡ old.order
  pub agents : new.agents ≡ with_agent old.agents h
      (agent_heard origin (in_removal old.mode (stamp_in request)) (agent_at old.agents h))
  pub copies : IsClearedAt h old.copies new.copies
