use Rattle.std.proofs.Common.{◌∙◌}
use Rattle.cache_sets.proofs.Shown.{some_place}
use Rattle.cache_sets.proofs.set.Set.has.Goals as goal

pub returns : goal.returns
returns c =
    c.is_some.ensures ∙ some_place c.args.self.now.lines.items c.args.line.number c.place_of.result c.place_of.ensures
