-- one register more
use Rattle.std.proofs.Common.{arith}
use Rattle.lab_text.proofs.Putting.{put_more}
use Rattle.lab_text.proofs.steps.tell_registers.Goals as goal
use Rattle.lab_text.specs.Items.{register_item}
use Rattle.rv_alu.specs.Regs.{get}

pub loop-number-preserved : goal.loop-number-preserved
loop-number-preserved c = (
  put_more (λ n. register_item n (get c.args.before.now.regs n) (get c.args.after.now.regs n)) c.loop-number.number
      c.args.list.now.items
      c.loop-number.list.items c.tell_register.new.list.items c.loop-number.invariant.0 c.tell_register.ensures.items,
  omega (arith, c.loop-number.invariant.1, c.tell_register.ensures.few),
)
