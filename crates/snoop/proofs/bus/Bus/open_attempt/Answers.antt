-- an attempt is open
use Rattle.std.proofs.Common.{◌∙◌, ap, refl}
use Rattle.bus_agent.specs.Agent.{agent_at, agent_of, agent_opened}
use Rattle.el_model.specs.Attempts.{open_attempt}
use Rattle.el_model.specs.State.{hart_of}
use Rattle.snoop.proofs.OneAgent.{leaves_agent}
use Rattle.snoop.proofs.bus.Bus.open_attempt.Goals as goal
use Rattle.snoop.specs.Shows.{bus_state}

pub returns : goal.returns
returns c =
    let bus = bus_state c.args.self.now in
    let h = c.args.hart.number in
    rw c.open_attempt.ensures
    (leaves_agent bus h (agent_opened bus.mode h (agent_at bus.agents h))
    (λ state. open_attempt state.config.mode h (hart_of state h))
    c.requires.ready refl refl
    (λ state shows. record {
      shown =
          ap (agent_opened bus.mode h) (shows.agents h)
          ∙ ap (λ mode. agent_opened mode h (agent_of (hart_of state h))) shows.mode;
      section_stays = refl;
      armed_stays = refl;
      cache_stays = refl;
    }))
