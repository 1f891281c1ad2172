use Rattle.std.proofs.Common.{sym, ◌∙◌}
use Rattle.bus_order.proofs.Keeping.{kept_removed}
use Rattle.bus_order.proofs.OneEach.{one_each_taken}
use Rattle.bus_order.proofs.Places.{removed_found, nothing_removed}
use Rattle.bus_order.proofs.order.Order.remove.Goals as goal

pub invariant_of-self : goal.invariant_of-self
invariant_of-self c =
    let found = rw c.deref.ensures.0 at (sym c.place_of_hart.ensures ∙ c.in-Some.is) in (
      one_each_taken c.self.inside.requests.items c.remove.new.self.items c.in-Some.place c.remove.ensures.items
          c.self.invariant.0,
      rw c.from.ensures
          (kept_removed _ _ c.self.invariant.1 c.args.hart.number c.args.hart.small _
          (rw c.remove.ensures.items
          (removed_found c.self.inside.requests.items c.args.hart.number c.in-Some.place c.self.invariant.0 found))),
    )

pub returns-in-Some : goal.returns-in-Some
returns-in-Some c =
    let found = rw c.deref.ensures.0 at (sym c.place_of_hart.ensures ∙ c.in-Some.is) in
    rw (← c.self.view_is, c.remove.ensures.items)
    (removed_found c.self.inside.requests.items c.args.hart.number c.in-Some.place c.self.invariant.0 found)

pub returns-in_default : goal.returns-in_default
returns-in_default c =
    let none = rw c.deref.ensures.0 at (sym c.place_of_hart.ensures ∙ c.in_default.is) in
    rw (← c.self.view_is) (sym (nothing_removed c.self.inside.requests.items c.args.hart.number none))
