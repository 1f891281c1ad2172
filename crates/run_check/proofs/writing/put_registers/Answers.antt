use Rattle.std.proofs.Common.{arith}
use Rattle.run_check.proofs.Registers.{register_more}
use Rattle.run_check.proofs.writing.put_registers.Goals as goal

pub loop-number-preserved : goal.loop-number-preserved
loop-number-preserved c =
    register_more c.args.view.now.regs c.args.bytes.now.items c.loop-number.bytes.items c.put_number.new.bytes.items
    c.loop-number.number
    c.get.result (omega (arith, c.loop-number.auto.number))
    (omega (arith, c.requires)) c.get.ensures.value c.loop-number.invariant
    c.in_ok-put_number.ensures
