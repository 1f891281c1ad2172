use Rattle.report.proofs.EachHart.{each_done, each_failed, each_more}
use Rattle.report.proofs.Putting.{failed_puts}
use Rattle.report.specs.TimesText.{losses_of}
use Rattle.report.proofs.times.put_loss_lines.Goals as goal

pub returns-in_err-put_losses_of : goal.returns-in_err-put_losses_of
returns-in_err-put_losses_of g c =
    failed_puts c.from_residual.result _ _ _ c.from_residual.ensures.0
    (each_failed (losses_of c.args.times.now c.args.harts) _ _ _ c.args.harts c.loop-number.number
    c.loop-number-test.true c.loop-number.invariant
    c.in_err-put_losses_of.ensures)

pub loop-number-preserved : goal.loop-number-preserved
loop-number-preserved g c =
    each_more (losses_of c.args.times.now c.args.harts) _ _ _ c.args.harts c.loop-number.number c.loop-number-test.true
    c.loop-number.invariant
    c.in_ok-put_losses_of.ensures

pub returns : goal.returns
returns g c =
    each_done (losses_of c.args.times.now c.args.harts) _ _ c.args.harts c.loop-number.number c.loop-number-test.false
    c.loop-number.invariant
