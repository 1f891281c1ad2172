use Rattle.report.proofs.EachHart.{each_done, each_failed, each_more}
use Rattle.report.proofs.Putting.{failed_puts}
use Rattle.report.specs.TimesText.{time_at}
use Rattle.report.proofs.times.put_time_lines.Goals as goal

pub returns-in_err-put_time_line : goal.returns-in_err-put_time_line
returns-in_err-put_time_line g c =
    failed_puts c.from_residual.result _ _ _ c.from_residual.ensures.0
    (each_failed (time_at c.args.times.now) _ _ _ c.args.harts c.loop-number.number c.loop-number-test.true
    c.loop-number.invariant
    c.in_err-put_time_line.ensures)

pub loop-number-preserved : goal.loop-number-preserved
loop-number-preserved g c =
    each_more (time_at c.args.times.now) _ _ _ c.args.harts c.loop-number.number c.loop-number-test.true
    c.loop-number.invariant
    c.in_ok-put_time_line.ensures

pub returns : goal.returns
returns g c =
    each_done (time_at c.args.times.now) _ _ c.args.harts c.loop-number.number c.loop-number-test.false
    c.loop-number.invariant
