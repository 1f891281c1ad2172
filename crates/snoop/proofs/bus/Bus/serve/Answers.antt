-- the request that a hart has in the order is its own
use Rattle.std.proofs.Common.{◌∙◌, ap, sym}
use Rattle.bus_order.specs.Order.{numbered, request_of}
use Rattle.bus_order.proofs.Laws.Queues.{hart_of_request_of}
use Rattle.snoop.specs.MainMemory.{lines_served}
use Rattle.snoop.specs.Shows.{bus_state}
use Rattle.snoop.proofs.bus.Bus.serve.Goals as goal

pub serve_past-requires-clause-ordered : goal.serve_past-requires-clause-ordered
serve_past-requires-clause-ordered g c =
    let order = (bus_state c.args.self.now).order in
    ap (request_of order)
    (hart_of_request_of order c.args.hart.number (numbered c.in-Some.request) (sym c.in-Some.ensures))
    ∙ sym c.in-Some.ensures

pub returns-in-Some-clause-memory : goal.returns-in-Some-clause-memory
returns-in-Some-clause-memory g c =
    let bus = bus_state c.args.self.now in
    c.serve_past.ensures.memory
    ∙ ap (λ h. lines_served c.args.pool.now bus h c.serve_past.result)
    (hart_of_request_of bus.order c.args.hart.number (numbered c.in-Some.request) (sym c.in-Some.ensures))
