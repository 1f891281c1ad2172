-- what the bus makes of its parts as a request is served
use Rattle.std.specs.Prelude.{ℕ, ◌≡◌, ◌<◌, ◌==◌, Bool, true, false, List, length, if◌then◌else◌}
use Rattle.bus_agent.specs.Agent.{Agent, agent_at, agent_claiming, agent_forgetting, agent_served}
use Rattle.bus_order.specs.Order.{Request, removed}
use Rattle.coherence.specs.Changed.{GetsBit, IsChangedAt}
use Rattle.coherence.specs.Lent.{IsLentTo, LeavesHolds}
use Rattle.coherence.specs.Served.{Copies, IsServed}
use Rattle.line_pool.specs.Pooled.{Pooled}
use Rattle.snoop.specs.Shows.{BusState, lent_copies, lives_at}

-- what an agent becomes, by whether the served hart has a live section
abbrev pub agent_after_serve : Bool → Request → ℕ → Agent → Agent
agent_after_serve live request g agent =
    if g == request.hart then agent_claiming live request.line (agent_served (agent_forgetting request.hart agent))
    else agent_forgetting request.hart agent

pub record AgentsServe (live : Bool) (request : Request) (old new : List Agent) : Type 0 where
  pub count : length new ≡ length old
  pub each : (g : ℕ) → g < length old → agent_at new g ≡ agent_after_serve live request g (agent_at old g)

-- a live section claims its line by a bit
abbrev pub CopiesClaim : Bool → Request → Copies → Copies → Type 0
CopiesClaim true request old new = IsChangedAt (GetsBit request.line request.need) request.hart old new
CopiesClaim false request old new = new ≡ old

pub record CopiesServe (live : Bool) (request : Request) (old new : Copies) : Type 0 where
  pub filled : Copies
  pub served : IsServed request.need request.hart request.line old filled
  pub claimed : CopiesClaim live request filled new

-- what serving a request makes of the bus and of the pool that lends its caches, before the
-- next head of its line is faced
pub record Serves (request : Request) (before after : Pooled) (old new : BusState) : Type 0 where
  pub mode : new.mode ≡ old.mode
  pub agents : AgentsServe (lives_at old request.hart) request old.agents new.agents
  pub copies : CopiesServe (lives_at old request.hart) request (lent_copies before old.copies)
      (lent_copies after new.copies)
  pub lent : IsLentTo after new.copies.caches
  pub holds : LeavesHolds before after
  pub order : new.order ≡ removed old.order request.hart
