use Rattle.std.proofs.Common.{◌≡◌, ℕ, ◌<◌, ◌≤◌, None, length}
use Rattle.run_check.specs.Faults.{first_below, line_at, line_fault, line_place}
use Rattle.run_check.specs.Rules.{line_limit}
use Rattle.run_check.proofs.judging.check_lines.Given as goal

abbrev pub invariant-loop-index : goal.invariant-loop-index
invariant-loop-index l = record {
  none : first_below l.index (line_fault l.file l.lines) ≡ None;
  numbers : (index : ℕ) → index < l.index → line_at l.file l.lines index < line_limit;
  whole : line_place l.lines l.index ≤ length l.file;
}
