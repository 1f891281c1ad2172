use Rattle.report.proofs.EachHart.{each_done, each_failed, each_more}
use Rattle.report.proofs.Putting.{failed_puts}
use Rattle.report.specs.TimesText.{loss_at}
use Rattle.report.proofs.times.put_losses_of.Goals as goal

pub returns-in_err-put_losses_to : goal.returns-in_err-put_losses_to
returns-in_err-put_losses_to g c =
    failed_puts c.from_residual.result _ _ _ c.from_residual.ensures.0
    (each_failed (loss_at c.args.times.now c.args.loser.number) _ _ _ c.args.harts c.loop-number.number
    c.loop-number-test.true c.loop-number.invariant
    c.in_err-put_losses_to.ensures)

pub loop-number-preserved : goal.loop-number-preserved
loop-number-preserved g c =
    each_more (loss_at c.args.times.now c.args.loser.number) _ _ _ c.args.harts c.loop-number.number
    c.loop-number-test.true c.loop-number.invariant
    c.in_ok-put_losses_to.ensures

pub returns : goal.returns
returns g c =
    each_done (loss_at c.args.times.now c.args.loser.number) _ _ c.args.harts c.loop-number.number
    c.loop-number-test.false c.loop-number.invariant
