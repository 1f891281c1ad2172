-- the change is that of the step
use Rattle.std.proofs.Common.{◌∷◌, [], arith, ap, length, length-append}
use Rattle.step_back.proofs.Tracks.{goes_on, harts-tracked, length-harts_of}
use Rattle.step_back.proofs.trail.Trail.step.Goals as goal

pub step_noting-change-requires : goal.step_noting-change-requires
step_noting-change-requires c =
    omega (
      arith,
      rw (← c.self.view_is) at c.requires.exists,
      harts-tracked c.self.inside.image c.self.inside.flat c.self.inside.changes.items c.self.invariant.tracked,
    )

pub invariant_of-self : goal.invariant_of-self
invariant_of-self c = record {
  tracked =
      goes_on c.self.inside.image c.self.inside.flat c.step_noting-change.new.self c.self.inside.changes.items
      c.push_reserved.new.self.items
      c.step_noting-change.result c.self.invariant.tracked c.step_noting-change.ensures.undoable
      c.push_reserved.ensures.items;
  within = omega (
    arith,
    rw (← c.self.view_is) at c.requires.room,
    length-harts_of c.self.inside.changes.items,
    ap length c.push_reserved.ensures.items,
    length-append c.self.inside.changes.items (c.step_noting-change.result ∷ []),
  );
  reserved = omega (arith, c.push_reserved.ensures.capacity, c.self.invariant.reserved);
}
