-- a hart has raised a request
use Rattle.std.proofs.Common.{refl}
use Rattle.bus_agent.specs.Agent.{agent_at}
use Rattle.bus_order.specs.Order.{Request}
use Rattle.snoop.proofs.Raising.{ready_raised, shows_raised}
use Rattle.snoop.proofs.bus.Bus.raise.Goals as goal
use Rattle.snoop.specs.Shows.{bus_state}

pub returns : goal.returns
returns c =
    let bus = bus_state c.args.self.now in
    let h = c.args.hart.number in
    let request : Request =
    record { hart = h; line = c.args.line.number; need = c.args.need; stamp = (agent_at bus.agents h).attempt } in
    let is = c.requires in
    record {
      ready =
          rw (c.raise.ensures, c.attempt-stamp.ensures, c.agent.ensures)
          (ready_raised bus request is.ready is.hart_exists is.no_request is.in_memory is.room);
      mode = refl;
      shows = λ state shows.
          rw (c.raise.ensures, c.attempt-stamp.ensures, c.agent.ensures)
          (shows_raised bus state h c.args.line.number c.args.need shows is.holds_nothing);
      copies_stay = refl;
    }
