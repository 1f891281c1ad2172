use Rattle.bus_order.proofs.Places.{tail_found}
use Rattle.bus_order.proofs.order.Order.tail_of.Goals as goal

pub returns : goal.returns
returns c =
    rw (← c.self.view_is, c.last_in_line.ensures, c.deref.ensures.0)
    (tail_found c.self.inside.requests.items c.args.line.number)
