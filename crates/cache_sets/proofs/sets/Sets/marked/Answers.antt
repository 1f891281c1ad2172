use Rattle.cache_sets.proofs.Readings.{some-marks}
use Rattle.cache_sets.proofs.sets.Sets.marked.Goals as goal

pub returns : goal.returns
returns c = some-marks c.self.invariant c.self.view_is
