-- no entries count for nothing
use Rattle.std.proofs.Common.{refl, arith}
use Rattle.chronicle.proofs.Counted.{none_counted}
use Rattle.chronicle.proofs.counts.Counts.none.Goals as goal

pub returns : goal.returns
returns c = none_counted c.default.result _ (grind (arith, c.default.ensures)) refl
