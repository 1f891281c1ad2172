use Rattle.std.proofs.Common.{ap, is_some, ◌∙◌}
use Rattle.residency.specs.Residency.{way_in}
use Rattle.cache_sets.proofs.Readings.{set-found}
use Rattle.cache_sets.proofs.sets.Sets.has.Goals as goal

pub returns : goal.returns
returns c =
    c.has.ensures
    ∙ ap (λ set. is_some (way_in set c.args.line.number))
    (set-found c.self.invariant c.self.view_is c.as_slice.ensures.value c.args.line.number _ c.set_of.ensures)
