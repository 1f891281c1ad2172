-- one more
use Rattle.std.proofs.Common.{arith}
use Rattle.std.proofs.lemmas.Grind.{common_steps}
use Rattle.std.proofs.lemmas.List.Sums.{sum_by_more}
use Rattle.lab.proofs.lock_rows.lost_instr.Goals as goal

pub loop-begun-preserved : goal.loop-begun-preserved
loop-begun-preserved c = record {
  so_far = λ a. grind (arith, common_steps, sum_by_more, c.loop-begun.invariant.so_far a, c.in_ok-add.ensures a);
  small = λ a. grind (arith, common_steps, c.loop-begun.invariant.small a, c.in_ok-add.ensures a);
}
