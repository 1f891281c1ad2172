-- the lines that were drained so far
use Rattle.std.proofs.Common.{length}
use Rattle.section_ctl.specs.Drains.{AreDrainedIn}
use Rattle.section_ctl.proofs.drain.drain.Given as goal

abbrev pub invariant-loop-line : goal.invariant-loop-line
invariant-loop-line l = AreDrainedIn l.sets l.initial.pool l.pool l.initial.hold l.hold

abbrev pub decreases-loop-line : goal.decreases-loop-line
decreases-loop-line l = length l.hold.entries
