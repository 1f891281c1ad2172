use Rattle.std.proofs.Common.{◌≡◌, ◌++◌, ◌≤◌}
use Rattle.el_base.specs.Freed.{order_below}
use Rattle.run_check.specs.Certified.{with_pending, IsGrowing}
use Rattle.run_check.specs.Content.{written_out}
use Rattle.run_check.proofs.stretches.extend_by_freed.Given as goal

abbrev pub invariant-loop-number : goal.invariant-loop-number
invariant-loop-number l = record {
  within : l.number ≤ 8;
  growing : IsGrowing l.stretches.items l.pending;
  written : written_out (with_pending l.stretches.items l.pending) ≡
      written_out (with_pending l.fn.stretches.items l.fn.pending) ++ order_below l.number l.freed;
}
