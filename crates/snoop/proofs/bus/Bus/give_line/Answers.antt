-- the line of the request has come to its hart
use Rattle.bus_order.specs.Order.{numbered}
use Rattle.snoop.specs.Shows.{bus_state}
use Rattle.snoop.proofs.Serves.{serve_lines, serve_ready, serve_shows, serve_stays}
use Rattle.snoop.proofs.bus.Bus.give_line.Goals as goal

pub returns-clause-leaves : goal.returns-clause-leaves
returns-clause-leaves c =
    let old = bus_state c.args.self.now in
    let new = bus_state c.serve_parts.new.self in
    let request = numbered c.args.request in
    let before = c.args.pool.now in
    let after = c.serve_parts.new.pool in
    let is = c.requires in
    record {
      ready = serve_ready old new request before after is.ready is.ordered c.serve_parts.ensures;
      shows =
          λ state shows. serve_shows old new state request before after is.ready shows is.ordered (is.free state shows)
          c.serve_parts.ensures;
      told = (serve_stays old new request before after c.serve_parts.ensures).told;
      holds = c.serve_parts.ensures.holds;
    }

pub returns-clause-memory : goal.returns-clause-memory
returns-clause-memory c =
    serve_lines (bus_state c.args.self.now) (bus_state c.serve_parts.new.self) (numbered c.args.request)
    c.args.pool.now c.serve_parts.new.pool c.serve_parts.ensures
