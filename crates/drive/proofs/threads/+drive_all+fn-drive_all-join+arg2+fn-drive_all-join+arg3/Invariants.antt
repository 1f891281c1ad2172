use Rattle.std.proofs.Common.{◌+◌, ◌-◌}
use Rattle.drive.proofs.threads.+drive_all+fn-drive_all-join+arg2+fn-drive_all-join+arg3.Given as goal

abbrev pub decreases-drive_all : goal.decreases-drive_all
decreases-drive_all g l = l.harts + l.harts

abbrev pub decreases-join+arg2 : goal.decreases-join+arg2
decreases-join+arg2 g l = l.half + l.half + 1

abbrev pub decreases-join+arg3 : goal.decreases-join+arg3
decreases-join+arg3 g l = (l.harts - l.half) + (l.harts - l.half) + 1
