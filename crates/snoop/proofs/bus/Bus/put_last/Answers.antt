-- the request is ordered, behind all others
use Rattle.bus_order.specs.Order.{appended, numbered}
use Rattle.snoop.proofs.Placing.{leaves_ordered, placed_last}
use Rattle.snoop.proofs.bus.Bus.put_last.Goals as goal
use Rattle.snoop.specs.Shows.{bus_state}

pub returns : goal.returns
returns c =
    let request = numbered c.args.request in
    rw (c.unraise.ensures, c.append.ensures)
    (leaves_ordered (λ order. appended order request) (bus_state c.args.self.now) request
    (λ order. placed_last order request)
    c.requires.ready c.requires.raised)
