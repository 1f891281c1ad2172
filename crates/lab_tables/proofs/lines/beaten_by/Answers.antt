-- one loser more
use Rattle.std.proofs.Common.{◌∙◌, ◌+◌, ap, length, subst, sym}
use Rattle.std.proofs.lemmas.List.{length_push}
use Rattle.lab_tables.proofs.LineRowing.{beaten_pushed}
use Rattle.lab_tables.proofs.lines.beaten_by.Goals as goal
use Rattle.lab_tables.specs.LineCounts.{AreBeatenBelow}

pub loop-number-preserved : goal.loop-number-preserved
loop-number-preserved c = record {
  so_far =
      ap length c.in_ok-push.ensures.items ∙ length_push c.loop-number.lists.items c.in_ok-line_counts.field-0
      ∙ ap (λ n. n + 1) c.loop-number.invariant.so_far;
  each =
      subst (AreBeatenBelow c.args.losses.now c.args.winner) (sym c.in_ok-push.ensures.items)
      (beaten_pushed c.args.losses.now c.args.winner c.loop-number.lists.items c.in_ok-line_counts.field-0
      c.at-loser.result
      (c.loop-number.invariant.so_far ∙ sym c.into.ensures ∙ sym c.at-loser.ensures) c.in_ok-line_counts.ensures
      c.loop-number.invariant.each);
}
