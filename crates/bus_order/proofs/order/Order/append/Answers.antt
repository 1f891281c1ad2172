use Rattle.std.proofs.Common.{◌≡◌, ◌∙◌, ◌∷◌, [], None, ap, lit<, map}
use Rattle.std.proofs.lemmas.List.{map-append}
use Rattle.bus_order.specs.Order.{numbered, request_of}
use Rattle.bus_order.proofs.Keeping.{kept_appended}
use Rattle.bus_order.proofs.OneEach.{room_for_one, one_each_pushed}
use Rattle.bus_order.proofs.order.Order.append.Goals as goal

pub push-requires : goal.push-requires
push-requires c = (
  lit< tt,
  room_for_one c.self.inside.requests.items c.args.request c.self.invariant.0
      (rw c.self.view_is c.requires),
)

pub invariant_of-self : goal.invariant_of-self
invariant_of-self c =
    let none : request_of (map numbered c.self.inside.requests.items) c.args.request.hart.number ≡ None =
    rw c.self.view_is c.requires in (
      one_each_pushed _ _ _ c.push.ensures.items c.self.invariant.0 none,
      rw c.from.ensures
          (kept_appended _ _ c.self.invariant.1 c.args.request none _
          (ap (map numbered) c.push.ensures.items ∙ map-append numbered c.self.inside.requests.items
          (c.args.request ∷ []))),
    )
