use Rattle.std.proofs.Common.{◌≡◌, None, lit<, map}
use Rattle.bus_order.specs.Order.{numbered, request_of}
use Rattle.bus_order.proofs.Keeping.{kept_in_front}
use Rattle.bus_order.proofs.OneEach.{room_for_one, one_each_inserted}
use Rattle.bus_order.proofs.Places.{in_front_found, in_front_within}
use Rattle.bus_order.proofs.order.Order.in_front.Goals as goal

pub insert-requires : goal.insert-requires
insert-requires c = (
  lit< tt,
  (
    rw (c.unwrap_or-place.ensures, c.place_of_line.ensures, c.deref.ensures.0, c.len-behind_all.ensures.value)
        (in_front_within c.self.inside.requests.items c.args.request.line.number),
    room_for_one c.self.inside.requests.items c.args.request c.self.invariant.0 (rw c.self.view_is c.requires),
  ),
)

pub invariant_of-self : goal.invariant_of-self
invariant_of-self c =
    let none : request_of (map numbered c.self.inside.requests.items) c.args.request.hart.number ≡ None =
    rw c.self.view_is c.requires in (
      one_each_inserted _ _ _ _ c.insert.ensures.items c.self.invariant.0 none,
      rw c.from.ensures
          (kept_in_front _ _ c.self.invariant.1 c.args.request none _
          (rw (
            c.insert.ensures.items,
            c.unwrap_or-place.ensures,
            c.place_of_line.ensures,
            c.deref.ensures.0,
            c.len-behind_all.ensures.value,
          )
          (in_front_found c.self.inside.requests.items c.args.request))),
    )

pub returns : goal.returns
returns c =
    rw (
      ← c.self.view_is,
      c.insert.ensures.items,
      c.unwrap_or-place.ensures,
      c.place_of_line.ensures,
      c.deref.ensures.0,
      c.len-behind_all.ensures.value,
    )
    (in_front_found c.self.inside.requests.items c.args.request)
