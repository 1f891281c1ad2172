-- what the bus shows after a hart was noted as armed, or as not
use Rattle.std.proofs.Common.{◌≡◌, ◌∙◌, ◌==◌, ℕ, not, ap, sym}
use Rattle.bus_agent.specs.Agent.{agent_at, agent_noted, with_agent}
use Rattle.el_model.specs.Plain.{armed_count}
use Rattle.el_model.specs.State.{Hart, ModelState, with_hart}
use Rattle.snoop.proofs.Showing.{shows_told}
use Rattle.snoop.specs.LettingGo.{IsNotedAs}
use Rattle.snoop.specs.Shows.{BusState, Shows, lives}

pub noted_shows : (bus : BusState) (state : ModelState) (h count : ℕ) (now : Hart) → Shows bus state →
    IsNotedAs state h count now →
    Shows (record bus { agents = with_agent bus.agents h (agent_noted count (agent_at bus.agents h)) })
    (with_hart state h now)
noted_shows bus state h count now shows noted =
    shows_told bus state h (agent_noted count (agent_at bus.agents h)) now shows
    (ap (agent_noted count) (shows.agents h) ∙ sym noted.agent)
    noted.cache
    (record {
      live = noted.live ∙ ap (lives now.cache) (sym has);
      arms = noted.armed ∙ ap (λ n. not (n == 0)) (sym has);
    })
  where
    has : armed_count now.armed ≡ count
    has = ap (λ agent. agent.armed) noted.agent
