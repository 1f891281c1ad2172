-- losses to one hart more
use Rattle.std.proofs.Common.{◌∙◌, ◌+◌, ap, length, subst, sym}
use Rattle.std.proofs.lemmas.List.{length_push}
use Rattle.lab_tables.proofs.LockRowing.{losses_pushed}
use Rattle.lab_tables.proofs.locks.losses.Goals as goal
use Rattle.lab_tables.specs.LockCounts.{AreLossesBelow}

pub loop-number-preserved : goal.loop-number-preserved
loop-number-preserved c = record {
  so_far =
      ap length c.in_ok-push.ensures.items ∙ length_push c.loop-number.lists.items c.in_ok-losses_to.field-0
      ∙ ap (λ n. n + 1) c.loop-number.invariant.so_far;
  each =
      subst (AreLossesBelow c.args.tries.now) (sym c.in_ok-push.ensures.items)
      (losses_pushed c.args.tries.now c.loop-number.lists.items c.in_ok-losses_to.field-0 c.loop-number.number
      c.loop-number.invariant.so_far c.in_ok-losses_to.ensures c.loop-number.invariant.each);
}
