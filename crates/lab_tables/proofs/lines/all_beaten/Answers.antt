-- one winner more
use Rattle.std.proofs.Common.{◌∙◌, ◌+◌, ◌≡◌, ap, length, subst, sym}
use Rattle.std.specs.Prelude.{All}
use Rattle.std.proofs.lemmas.List.{length_push}
use Rattle.std.proofs.lemmas.List.Elements.{All-push}
use Rattle.lab_tables.proofs.LineRowing.{all_pushed}
use Rattle.lab_tables.proofs.lines.all_beaten.Goals as goal
use Rattle.lab_tables.specs.LineCounts.{AreAllBeatenBelow}

pub loop-number-preserved : goal.loop-number-preserved
loop-number-preserved c = record {
  so_far =
      ap length c.in_ok-push.ensures.items ∙ length_push c.loop-number.lists.items c.in_ok-beaten_by.field-0
      ∙ ap (λ n. n + 1) c.loop-number.invariant.so_far;
  sizes =
      subst (All (λ list. length list.items ≡ 8)) (sym c.in_ok-push.ensures.items)
      (All-push (λ list. length list.items ≡ 8) c.loop-number.lists.items c.in_ok-beaten_by.field-0
      c.loop-number.invariant.sizes c.in_ok-beaten_by.ensures.eight);
  each =
      subst (AreAllBeatenBelow c.args.losses.now) (sym c.in_ok-push.ensures.items)
      (all_pushed c.args.losses.now c.loop-number.lists.items c.in_ok-beaten_by.field-0 c.at-winner.result
      (c.loop-number.invariant.so_far ∙ sym c.into.ensures ∙ sym c.at-winner.ensures) c.in_ok-beaten_by.ensures
      c.loop-number.invariant.each);
}
