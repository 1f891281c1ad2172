-- one more
use Rattle.std.proofs.Common.{arith}
use Rattle.std.proofs.lemmas.Grind.{common_steps}
use Rattle.std.proofs.lemmas.List.Sums.{sum_by_more}
use Rattle.lab.proofs.lock_rows.plain_swaps.Goals as goal

pub loop-swap-preserved : goal.loop-swap-preserved
loop-swap-preserved c = record {
  so_far =
      λ a. grind (
        arith,
        common_steps,
        sum_by_more,
        c.loop-swap.invariant.so_far a,
        c.in_ok-add.ensures a,
        c.ran_for.ensures.exact,
      );
  small =
      λ a. grind (arith, common_steps, c.loop-swap.invariant.small a, c.in_ok-add.ensures a, c.ran_for.ensures.small);
}
