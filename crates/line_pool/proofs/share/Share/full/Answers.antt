use Rattle.std.proofs.Common.{◌+◌, subst, sym, arith}
use Rattle.line_pool.specs.Kept.{AreFirst}
use Rattle.line_pool.proofs.Made.{more_first}
use Rattle.line_pool.proofs.share.Share.full.Goals as goal

pub loop-place-preserved : goal.loop-place-preserved
loop-place-preserved c = record {
  listed = subst (AreFirst (c.loop-place.place + 1)) (sym c.push_reserved.ensures.items)
      (more_first c.loop-place.place c.loop-place.free.items c.loop-place.invariant.listed);
  room = omega (arith, c.loop-place.invariant.room, c.push_reserved.ensures.capacity);
}
