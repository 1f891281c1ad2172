use Rattle.std.proofs.Common.{◌∙◌, arith}
use Rattle.bus_order.specs.Order.{numbered}
use Rattle.snoop.specs.Shows.{holding_of}
use Rattle.snoop.proofs.Lent.{room_at}
use Rattle.snoop.proofs.bus.Bus.serve_parts.Goals as goal

pub is_live-live-requires-clause-hart_exists : goal.is_live-live-requires-clause-hart_exists
is_live-live-requires-clause-hart_exists c =
    (c.requires.ready.ordered c.args.request.hart.number (numbered c.args.request) c.requires.ordered).hart_exists

pub fill-requires-clause-hart_exists : goal.fill-requires-clause-hart_exists
fill-requires-clause-hart_exists c =
    let can = c.requires.ready.ordered c.args.request.hart.number (numbered c.args.request) c.requires.ordered in
    omega (arith, can.hart_exists, c.requires.ready.each)

pub fill-requires-clause-in_memory : goal.fill-requires-clause-in_memory
fill-requires-clause-in_memory c =
    (c.requires.ready.ordered c.args.request.hart.number (numbered c.args.request) c.requires.ordered).in_memory

pub fill-requires-clause-lent : goal.fill-requires-clause-lent
fill-requires-clause-lent c = c.requires.told.tells.lent

pub fill-requires-clause-room : goal.fill-requires-clause-room
fill-requires-clause-room c =
    room_at c.args.pool.now (holding_of c.args.self.now.hierarchy) c.args.request.hart.number c.args.request.line.number
    ∙ (c.requires.ready.ordered c.args.request.hart.number (numbered c.args.request) c.requires.ordered).room

pub fill-requires-clause-coherent : goal.fill-requires-clause-coherent
fill-requires-clause-coherent c = record { bytes = c.requires.told.bytes; tells = c.requires.told.tells.told }
