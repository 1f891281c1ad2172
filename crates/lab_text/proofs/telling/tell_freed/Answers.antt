-- one hart more
use Rattle.std.proofs.Common.{arith}
use Rattle.el_base.specs.Freed.{count_in}
use Rattle.lab_text.proofs.Putting.{put_more}
use Rattle.lab_text.proofs.telling.tell_freed.Goals as goal
use Rattle.lab_text.specs.Items.{freed_item}

pub loop-number-preserved : goal.loop-number-preserved
loop-number-preserved c = (
  put_more (λ h. freed_item h (count_in c.args.freed h)) c.loop-number.number c.args.list.now.items
      c.loop-number.list.items
      c.tell_freed_hart.new.list.items c.loop-number.invariant.0 c.tell_freed_hart.ensures.items,
  omega (arith, c.loop-number.invariant.1, c.tell_freed_hart.ensures.few),
)
