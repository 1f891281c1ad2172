use Rattle.std.proofs.Common.{ap, option_map, ◌∙◌}
use Rattle.residency.specs.Cache.{set_of}
use Rattle.residency.specs.Residency.{Way, evicted_in}
use Rattle.cache_sets.specs.Slotted.{Slotted}
use Rattle.cache_sets.proofs.Readings.{set-found}
use Rattle.cache_sets.proofs.sets.Sets.victim.Goals as goal

pub returns : goal.returns
returns c =
    c.victim.ensures
    ∙ ap (λ set. option_map (λ (way : Way). way.line) (evicted_in c.self.inside.ways set))
    (set-found c.self.invariant c.self.view_is c.as_slice.ensures.value c.args.line.number _ c.set_of.ensures)
    ∙ ap (λ (v : Slotted). option_map (λ (way : Way). way.line)
    (evicted_in v.ways (set_of c.args.self.now.residency c.args.line.number)))
    c.self.view_is
