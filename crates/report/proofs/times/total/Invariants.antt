use Rattle.std.proofs.Common.{◌≡◌, ◌*◌, ◌≤◌}
use Rattle.report.specs.TimesText.{total_of}
use Rattle.timetable.specs.Counting.{most_units}
use Rattle.report.proofs.times.total.Given as goal

abbrev pub invariant-loop-number : goal.invariant-loop-number
invariant-loop-number l = record {
  so_far : l.total ≡ total_of l.number l.times;
  small : l.total ≤ l.number * most_units;
}
