-- the last change is that of the last step
use Rattle.std.proofs.Common.{◌∷◌, [], ap, arith, length, length-append}
use Rattle.step_back.specs.Track.{harts_of}
use Rattle.rv_flat.specs.FlatState.{start}
use Rattle.rv_flat.specs.Run.{run}
use Rattle.step_back.proofs.Tracks.{goes_back}
use Rattle.step_back.proofs.trail.Trail.undo.Goals as goal

pub undo-requires : goal.undo-requires
undo-requires c =
    let back =
    goes_back c.self.inside.image c.self.inside.flat c.pop.new.self.items c.self.inside.changes.items
    c.in-Some.change
    c.self.invariant.tracked c.in-Some.ensures.items in
    (run (start c.self.inside.image) (harts_of c.pop.new.self.items), back.1)

pub invariant_of-self : goal.invariant_of-self
invariant_of-self c =
    let back =
    goes_back c.self.inside.image c.self.inside.flat c.pop.new.self.items c.self.inside.changes.items
    c.in-Some.change
    c.self.invariant.tracked c.in-Some.ensures.items in
    record {
      tracked = record {
        reached = c.undo.ensures (run (start c.self.inside.image) (harts_of c.pop.new.self.items)) back.1;
        noted = back.0.others;
      };
      within = omega (
        arith,
        c.self.invariant.within,
        ap length c.in-Some.ensures.items,
        length-append c.pop.new.self.items (c.in-Some.change ∷ []),
      );
      reserved = omega (arith, c.in-Some.ensures.capacity, c.self.invariant.reserved);
    }
