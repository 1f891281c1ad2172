use Rattle.std.proofs.Common.{◌≡◌, ℕ, ◌<◌, ◌≤◌, None, length}
use Rattle.run_check.specs.Faults.{count_at, first_below, hart_at, stretch_fault, stretch_place}
use Rattle.run_check.specs.Rules.{most_steps, steps_before}
use Rattle.run_check.proofs.judging.check_stretches.Given as goal

abbrev pub invariant-loop-index : goal.invariant-loop-index
invariant-loop-index l = record {
  none : first_below l.index (stretch_fault l.file l.harts) ≡ None;
  steps : l.steps ≡ steps_before (count_at l.file) l.index;
  few : l.steps ≤ most_steps;
  each_has_one : l.index ≤ l.steps;
  harts : (index : ℕ) → index < l.index → hart_at l.file index < l.harts;
  whole : stretch_place l.index ≤ length l.file;
}
