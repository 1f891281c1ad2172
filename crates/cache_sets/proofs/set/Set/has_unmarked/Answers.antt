use Rattle.std.proofs.Common.{◌∙◌}
use Rattle.cache_sets.proofs.VictimPlaces.{some_victim}
use Rattle.cache_sets.proofs.set.Set.has_unmarked.Goals as goal

pub returns : goal.returns
returns c = c.is_some.ensures ∙ some_victim c.args.self.now.lines.items c.victim_place.result c.victim_place.ensures
