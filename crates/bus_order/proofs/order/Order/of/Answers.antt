use Rattle.std.proofs.Common.{◌<◌, ◌∙◌, None, ap, arith, length}
use Rattle.std.specs.Option.{option_map}
use Rattle.std.proofs.lemmas.List.{get_or_default}
use Rattle.bus_order.specs.Order.{numbered}
use Rattle.bus_order.proofs.order.Order.of.Goals as goal

pub listed : goal.listed
listed c = omega (arith, c.from.ensures, c.self.invariant.1.count, c.args.hart.small)

pub returns : goal.returns
returns c =
    let there : c.args.hart.number < length c.self.inside.of_harts = rw c.self.invariant.1.count c.args.hart.small in
    rw (← c.self.view_is, c.from.ensures)
    (ap (option_map numbered) (get_or_default c.self.inside.of_harts c.args.hart.number _ None there)
    ∙ c.self.invariant.1.each c.args.hart.number c.args.hart.small)
