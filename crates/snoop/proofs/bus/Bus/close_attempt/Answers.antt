-- an attempt has closed
use Rattle.std.proofs.Common.{◌∙◌, ap, refl}
use Rattle.bus_agent.proofs.Laws.Attempts.{closed_agent}
use Rattle.bus_agent.specs.Agent.{agent_closed, agent_at}
use Rattle.el_model.specs.Attempts.{close_attempt}
use Rattle.el_model.specs.State.{hart_of}
use Rattle.snoop.proofs.OneAgent.{leaves_agent}
use Rattle.snoop.proofs.bus.Bus.close_attempt.Goals as goal
use Rattle.snoop.specs.Shows.{bus_state}

pub returns : goal.returns
returns c =
    let bus = bus_state c.args.self.now in
    let h = c.args.hart.number in
    rw c.close_attempt.ensures
    (leaves_agent bus h (agent_closed (agent_at bus.agents h)) (λ state. close_attempt (hart_of state h))
    c.requires.ready refl refl
    (λ state shows. record {
      shown = ap agent_closed (shows.agents h) ∙ closed_agent (hart_of state h);
      section_stays = refl;
      armed_stays = refl;
      cache_stays = refl;
    }))
