use Rattle.std.proofs.Common.{below_more, arith}
use Rattle.run_check.specs.Faults.{view_fault}
use Rattle.run_check.proofs.FirstBelow.{none_more}
use Rattle.run_check.proofs.judging.check_views.Goals as goal

pub loop-hart-preserved : goal.loop-hart-preserved
loop-hart-preserved c = record {
  none =
      none_more c.loop-hart.hart (view_fault c.args.file.now c.args.views) c.loop-hart.invariant.none
      c.in_ok-check_view.ensures.accepted;
  right = below_more _ _ c.loop-hart.invariant.right c.in_ok-check_view.ensures.right;
  whole = omega (arith, c.in_ok-check_view.ensures.whole);
}
