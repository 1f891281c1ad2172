-- there are the program's harts
use Rattle.std.proofs.Common.{arith}
use Rattle.step_back.proofs.Tracks.{harts-tracked}
use Rattle.step_back.proofs.trail.Trail.hart.Goals as goal

pub hart-requires : goal.hart-requires
hart-requires c =
    omega (
      arith,
      rw (← c.self.view_is) at c.requires,
      harts-tracked c.self.inside.image c.self.inside.flat c.self.inside.changes.items c.self.invariant.tracked,
    )
