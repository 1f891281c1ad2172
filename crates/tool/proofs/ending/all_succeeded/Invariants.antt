use Rattle.std.proofs.Common.{◌≡◌, true, take}
use Rattle.drive.specs.Story.{committed}
use Rattle.tool.specs.Ending.{all_succeeded}
use Rattle.tool.proofs.ending.all_succeeded.Given as goal

abbrev pub invariant-loop-number : goal.invariant-loop-number
invariant-loop-number l = all_succeeded (take l.number (committed l.machine).harts) ≡ true
