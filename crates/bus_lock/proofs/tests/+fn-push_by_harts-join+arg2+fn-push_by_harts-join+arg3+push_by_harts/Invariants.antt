use Rattle.std.proofs.Common.{◌+◌, ◌-◌}
use Rattle.bus_lock.proofs.tests.+fn-push_by_harts-join+arg2+fn-push_by_harts-join+arg3+push_by_harts.Given as goal

abbrev pub decreases-join+arg2 : goal.decreases-join+arg2
decreases-join+arg2 g l = l.half + l.half + 1

abbrev pub decreases-join+arg3 : goal.decreases-join+arg3
decreases-join+arg3 g l = (l.harts - l.half) + (l.harts - l.half) + 1

abbrev pub decreases-push_by_harts : goal.decreases-push_by_harts
decreases-push_by_harts g l = l.harts + l.harts
