-- what becomes of agents and caches as each hart has its fate
use Rattle.std.specs.Prelude.{ℕ, suc, Bool, true, false, List, [], ◌∷◌, Option, None}
use Rattle.bus_agent.specs.Agent.{Agent, agent_at, agent_posted, agent_seeing, with_agent}
use Rattle.bus_order.specs.Order.{Request}
use Rattle.el_base.specs.declared.config.Mode.{Mode}
use Rattle.el_base.specs.declared.config.Mode.TheVariants.{Plain, Sle, Tlr}
use Rattle.el_model.specs.Face.{Fate, LosesTo, Stays, Unmet}
use Rattle.mail.specs.Mailbox.{Marker}
use Rattle.snoop.specs.Changing.{AreHartsChanged, IsHartChanged}
use Rattle.snoop.specs.Fates.{numbered_fate, stamp_on}
use Rattle.snoop.specs.Shows.{BusState}
use Rattle.snoop.specs.declared.fates.Fate as fates
use Rattle.stamp.specs.Stamps.{Stamp}

-- a stamp counts in lock removal alone
abbrev pub in_removal : Mode → Option Stamp → Option Stamp
in_removal Tlr stamp = stamp
in_removal Sle stamp = None
in_removal Plain stamp = None

-- the stamp that a hart sees as it has its fate: that of its winner's request, or that of the head that it defers
abbrev pub stamp_seen : Mode → List Request → Request → Fate → Option Stamp
stamp_seen mode order head Unmet = None
stamp_seen mode order head Stays = in_removal mode head.stamp
stamp_seen mode order head (LosesTo winner) = in_removal mode (stamp_on order head.line winner)

-- an agent as its hart has its fate
abbrev pub settled_agent : BusState → Request → Fate → Agent → Agent
settled_agent bus head fate agent = agent_seeing (stamp_seen bus.mode bus.order head fate) agent

-- whether a fate is to lose
abbrev pub loses : Fate → Bool
loses Unmet = false
loses Stays = false
loses (LosesTo winner) = true

-- one hart has its fate, and the harts below a number have theirs: a loser's cache has no bits any more
abbrev pub IsSettledAt : Request → Fate → ℕ → BusState → BusState → Type 0
IsSettledAt head fate h old new = IsHartChanged (settled_agent old head fate) (loses fate) h old new

abbrev pub AreSettledBelow : Request → (ℕ → Fate) → ℕ → BusState → BusState → Type 0
AreSettledBelow head fate number old new =
    AreHartsChanged (λ h. settled_agent old head (fate h)) (λ h. loses (fate h)) number old new

-- the agents after a hart with this fate has sent a marker, where it stays
abbrev pub marker_sent : Fate → ℕ → ℕ → List Agent → List Agent
marker_sent Unmet from to agents = agents
marker_sent Stays from to agents = with_agent agents to (agent_posted (Marker from) (agent_at agents to))
marker_sent (LosesTo winner) from to agents = agents

-- the agents after the harts with these fates, the first of them of this number, have sent their markers
abbrev pub markers_sent : ℕ → List fates.Fate → ℕ → List Agent → List Agent
markers_sent from [] to agents = agents
markers_sent from (fate ∷ others) to agents =
    markers_sent (suc from) others to (marker_sent (numbered_fate fate) from to agents)

-- markers are sent in lock removal alone
abbrev pub sent_in : Mode → List fates.Fate → ℕ → List Agent → List Agent
sent_in Tlr known to agents = markers_sent 0 known to agents
sent_in Sle known to agents = agents
sent_in Plain known to agents = agents
