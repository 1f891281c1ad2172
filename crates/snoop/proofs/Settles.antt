-- each hart has its fate, one after another
use Rattle.std.proofs.Common.{◌≡◌, ◌∙◌, ℕ, ◌+◌, ◌<◌, length, ap}
use Rattle.bus_agent.specs.Agent.{Agent, agent_at, with_agent}
use Rattle.bus_order.specs.Order.{Request}
use Rattle.el_model.specs.Face.{Fate}
use Rattle.snoop.proofs.Changes.{no_hart_changed, one_hart_changed}
use Rattle.snoop.specs.Settled.{AreSettledBelow, IsSettledAt, loses, settled_agent}
use Rattle.snoop.specs.Shows.{BusState}

pub none_settled : (head : Request) (fate : ℕ → Fate) (bus : BusState) → AreSettledBelow head fate 0 bus bus
none_settled head fate bus = no_hart_changed (λ h. settled_agent bus head (fate h)) (λ h. loses (fate h)) bus

-- a hart has its fate by the mode and the order, which are as they were
pub one_settled : (head : Request) (fate : ℕ → Fate) (h : ℕ) (old mid new : BusState) →
    AreSettledBelow head fate h old mid → IsSettledAt head (fate h) h mid new → h < length mid.agents →
    AreSettledBelow head fate (h + 1) old new
one_settled head fate h old mid new below at inside =
    one_hart_changed (λ g. settled_agent old head (fate g)) (λ g. loses (fate g)) h old mid new below
    (record {
      mode = at.mode;
      order = at.order;
      agents = at.agents ∙ ap (with_agent mid.agents h) (as_before (agent_at mid.agents h));
      copies = at.copies;
    })
    inside
  where
    as_before : (agent : Agent) → settled_agent mid head (fate h) agent ≡ settled_agent old head (fate h) agent
    as_before agent =
        ap (λ mode. settled_agent (record mid { mode = mode }) head (fate h) agent) below.mode
        ∙ ap (λ order. settled_agent (record old { order = order }) head (fate h) agent) below.order
