use Rattle.std.proofs.Common.{◌/◌, arith}
use Rattle.bus_lock.specs.Locks.{started_with}
use Rattle.drive.proofs.Ending.{both_ended}
use Rattle.drive.proofs.threads.+drive_all+fn-drive_all-join+arg2+fn-drive_all-join+arg3.Goals as goal

pub returns-clause-ended : goal.returns-clause-ended
returns-clause-ended g t c =
    both_ended (started_with c.args.lock.now) c.args.first (c.args.harts / 2) c.args.harts _ _ _ (omega arith)
    c.join-left.ensures.first.5 c.join-left.ensures.second.5 c.join.ensures.left_begins c.join.ensures.right_begins
