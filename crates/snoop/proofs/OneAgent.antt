-- a call by which the agent of one hart alone changes, and asks for what it asked
use Rattle.std.proofs.Common.{◌≡◌, ◌≤◌, ◌∙◌, ℕ, refl, subst, sym}
use Rattle.bus_agent.specs.Agent.{Agent, agent_at, agent_of, with_agent}
use Rattle.el_model.specs.State.{Hart, ModelState, armed_of, cache_of, section_of, with_hart}
use Rattle.snoop.proofs.Ready.{ready_agent}
use Rattle.snoop.proofs.Showing.{shows_agent}
use Rattle.snoop.specs.Leaving.{LeavesCopies}
use Rattle.snoop.specs.Shows.{BusState, IsReady, Shows}

-- the hart that the agent is shown to be of is as it was but for its part at the bus
pub record IsOnlyAgent (state : ModelState) (h : ℕ) (agent : Agent) (hart : Hart) : Type 0 where
  pub shown : agent ≡ agent_of hart
  pub section_stays : hart.section ≡ section_of state h
  pub armed_stays : hart.armed ≡ armed_of state h
  pub cache_stays : hart.cache ≡ cache_of state h

pub leaves_agent : (bus : BusState) (h : ℕ) (agent : Agent) (becomes : ModelState → Hart) → IsReady bus →
    agent.raised ≡ (agent_at bus.agents h).raised → agent.armed ≡ (agent_at bus.agents h).armed →
    ((state : ModelState) → Shows bus state → IsOnlyAgent state h agent (becomes state)) →
    LeavesCopies (λ state. with_hart state h (becomes state)) bus
    (record bus { agents = with_agent bus.agents h agent })
leaves_agent bus h agent becomes ready raised armed only = record {
  ready =
      ready_agent bus h agent ready (λ request is. sym raised ∙ is)
      (subst (λ n. n ≤ 15) (sym armed) (ready.few_armed h));
  mode = refl;
  shows = λ state shows.
      let is = only state shows in
      shows_agent bus state h agent (becomes state) shows is.shown is.section_stays is.armed_stays is.cache_stays;
  copies_stay = refl;
}
