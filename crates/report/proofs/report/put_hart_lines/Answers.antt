use Rattle.std.proofs.Common.{ap, arith}
use Rattle.el_base.specs.declared.config.Config.{Config}
use Rattle.step_back.specs.Story.{committed}
use Rattle.report.proofs.EachHart.{each_done, each_failed, each_more}
use Rattle.report.proofs.Putting.{failed_puts}
use Rattle.report.proofs.Reporting.{line_at}
use Rattle.report.proofs.report.put_hart_lines.Goals as goal

pub returns-in_err-put_line_of : goal.returns-in_err-put_line_of
returns-in_err-put_line_of g c =
    let harts = ap (λ (config : Config). config.harts) c.config-number-end.ensures.exact in
    failed_puts c.from_residual.result _ _ _ c.from_residual.ensures.0
    (each_failed (line_at c.args.machine.now.entries (committed c.args.machine.now)) _ _ _
    c.args.machine.now.config.harts
    c.loop-number.number (omega (arith, c.loop-number-test.true, harts)) c.loop-number.invariant
    c.in_err-put_line_of.ensures)

pub loop-number-preserved : goal.loop-number-preserved
loop-number-preserved g c =
    let harts = ap (λ (config : Config). config.harts) c.config-number-end.ensures.exact in
    each_more (line_at c.args.machine.now.entries (committed c.args.machine.now)) _ _ _ c.args.machine.now.config.harts
    c.loop-number.number (omega (arith, c.loop-number-test.true, harts)) c.loop-number.invariant
    c.in_ok-put_line_of.ensures

pub returns : goal.returns
returns g c =
    let harts = ap (λ (config : Config). config.harts) c.config-number-end.ensures.exact in
    each_done (line_at c.args.machine.now.entries (committed c.args.machine.now)) _ _ c.args.machine.now.config.harts
    c.loop-number.number (omega (arith, c.loop-number-test.false, harts)) c.loop-number.invariant
