use Rattle.std.proofs.Common.{ap, ◌∙◌}
use Rattle.residency.specs.Cache.{set_of}
use Rattle.residency.specs.Residency.{room_in}
use Rattle.cache_sets.specs.Slotted.{Slotted}
use Rattle.cache_sets.proofs.Readings.{cached-always, set-found}
use Rattle.cache_sets.proofs.sets.Sets.room.Goals as goal

pub returns : goal.returns
returns c = record {
  exact =
      c.has_room_for.ensures
      ∙ ap (λ set. room_in c.self.inside.ways set c.args.line.number)
      (set-found c.self.invariant c.self.view_is c.as_slice.ensures.value c.args.line.number _ c.set_of.ensures)
      ∙ ap (λ (v : Slotted). room_in v.ways (set_of c.args.self.now.residency c.args.line.number) c.args.line.number)
      c.self.view_is;
  cached = cached-always c.self.invariant c.self.view_is;
}
