use Rattle.std.proofs.Common.{◌≡◌}
use Rattle.run_check.specs.Certified.{changed_below}
use Rattle.run_check.proofs.certifying.changed_lines.Given as goal

abbrev pub invariant-loop-index : goal.invariant-loop-index
invariant-loop-index g l = l.lines.items ≡ changed_below l.image (g.R.Reached.state l.reached).bytes l.index
