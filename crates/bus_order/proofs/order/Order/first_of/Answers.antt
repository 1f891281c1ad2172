use Rattle.bus_order.proofs.Places.{first_found}
use Rattle.bus_order.proofs.order.Order.first_of.Goals as goal

pub returns : goal.returns
returns c =
    rw (← c.self.view_is, c.first_in_line.ensures, c.deref.ensures.0)
    (first_found c.self.inside.requests.items c.args.line.number)
