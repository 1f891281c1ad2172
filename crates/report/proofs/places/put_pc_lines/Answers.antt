use Rattle.std.proofs.Common.{arith}
use Rattle.report.proofs.EachHart.{each_done, each_failed, each_more}
use Rattle.report.proofs.Putting.{failed_puts}
use Rattle.report.specs.PlaceText.{view_line}
use Rattle.rv_flat.specs.FlatState.{view_of}
use Rattle.step_back.specs.Standing.{state_here}
use Rattle.report.proofs.places.put_pc_lines.Goals as goal

pub returns-in_err-put_pc_line_of : goal.returns-in_err-put_pc_line_of
returns-in_err-put_pc_line_of g c =
    failed_puts c.from_residual.result _ _ _ c.from_residual.ensures.0
    (each_failed (view_line (view_of (state_here c.args.timeline.now))) _ _ _ c.args.timeline.now.program.harts
    c.loop-number.number
    (omega (arith, c.loop-number-test.true, c.harts-number-end.ensures.exact)) c.loop-number.invariant
    c.in_err-put_pc_line_of.ensures)

pub loop-number-preserved : goal.loop-number-preserved
loop-number-preserved g c =
    each_more (view_line (view_of (state_here c.args.timeline.now))) _ _ _ c.args.timeline.now.program.harts
    c.loop-number.number
    (omega (arith, c.loop-number-test.true, c.harts-number-end.ensures.exact)) c.loop-number.invariant
    c.in_ok-put_pc_line_of.ensures

pub returns : goal.returns
returns g c =
    each_done (view_line (view_of (state_here c.args.timeline.now))) _ _ c.args.timeline.now.program.harts
    c.loop-number.number
    (omega (arith, c.loop-number-test.false, c.harts-number-end.ensures.exact)) c.loop-number.invariant
