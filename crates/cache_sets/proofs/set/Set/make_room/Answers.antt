use Rattle.std.proofs.Common.{subst, sym, arith}
use Rattle.cache_sets.specs.Kept.{MakesRoom}
use Rattle.cache_sets.proofs.Rooms.{room_made, room_none}
use Rattle.cache_sets.proofs.set.Set.make_room.Goals as goal

pub returns-in_err-place : goal.returns-in_err-place
returns-in_err-place c =
    subst (MakesRoom c.args.ways c.args.self.now c.args.self.now) (sym c.from_residual.ensures)
    (room_none c.args.ways c.args.self.now (omega arith) c.in_err-place.ensures)

pub returns-in_ok-place : goal.returns-in_ok-place
returns-in_ok-place c =
    room_made c.args.ways c.args.self.now _ c.in_ok-place.place c.remove.result c.requires (omega arith)
    c.in_ok-place.ensures.0
    c.remove.ensures.value (c.in_ok-place.ensures.1 c.remove.result) c.remove.ensures.items c.remove.ensures.capacity
