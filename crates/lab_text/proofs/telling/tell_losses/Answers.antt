-- one hart more
use Rattle.std.proofs.Common.{arith}
use Rattle.el_base.specs.Losers.{beaten_by}
use Rattle.lab_text.proofs.Putting.{put_more}
use Rattle.lab_text.proofs.telling.tell_losses.Goals as goal
use Rattle.lab_text.specs.Items.{loss_item}

pub loop-number-preserved : goal.loop-number-preserved
loop-number-preserved c = (
  put_more (λ h. loss_item h (beaten_by c.args.losers h)) c.loop-number.number c.args.list.now.items
      c.loop-number.list.items
      c.tell_loss.new.list.items c.loop-number.invariant.0 c.tell_loss.ensures.items,
  omega (arith, c.loop-number.invariant.1, c.tell_loss.ensures.few),
)
