-- a hart holds no line
use Rattle.std.proofs.Common.{None, ap, refl}
use Rattle.bus_agent.specs.Agent.{Agent, agent_at}
use Rattle.el_model.specs.State.{hart_of}
use Rattle.snoop.proofs.OneAgent.{leaves_agent}
use Rattle.snoop.proofs.bus.Bus.give_up.Goals as goal
use Rattle.snoop.specs.Shows.{bus_state}

pub returns : goal.returns
returns c =
    let bus = bus_state c.args.self.now in
    let h = c.args.hart.number in
    let freed : Agent → Agent = λ agent. record agent { held_line = None } in
    rw c.give_up.ensures
    (leaves_agent bus h (freed (agent_at bus.agents h)) (λ state. record (hart_of state h) { held_line = None })
    c.requires.ready refl refl
    (λ state shows. record {
      shown = ap freed (shows.agents h);
      section_stays = refl;
      armed_stays = refl;
      cache_stays = refl;
    }))
