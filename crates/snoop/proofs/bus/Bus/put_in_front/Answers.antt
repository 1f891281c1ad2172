-- the request is ordered, before those of its line
use Rattle.bus_order.specs.Order.{in_front_of, numbered}
use Rattle.snoop.proofs.Placing.{leaves_ordered, placed_in_front}
use Rattle.snoop.proofs.bus.Bus.put_in_front.Goals as goal
use Rattle.snoop.specs.Shows.{bus_state}

pub returns : goal.returns
returns c =
    let request = numbered c.args.request in
    rw (c.unraise.ensures, c.in_front.ensures)
    (leaves_ordered (λ order. in_front_of order request) (bus_state c.args.self.now) request
    (λ order. placed_in_front order request)
    c.requires.ready c.requires.raised)
