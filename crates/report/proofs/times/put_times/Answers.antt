use Rattle.std.proofs.Common.{◌++◌, ap}
use Rattle.std.specs.List.{flat_map, range_with_len}
use Rattle.report.proofs.Putting.{failed_puts, put_stopped, put_then, put_then_part}
use Rattle.report.specs.TimesText.{losses_of, time_at, times_text, total_line}
use Rattle.report.proofs.times.put_times.Goals as goal
use Rattle.report.proofs.Laws.Puts.{same_puts}

pub returns-in_err-put_loss_lines : goal.returns-in_err-put_loss_lines
unfolding times_text
returns-in_err-put_loss_lines g c =
    failed_puts c.from_residual-in_err-put_loss_lines.result _ _ _ c.from_residual-in_err-put_loss_lines.ensures.0
    (put_then_part _ _ _ (flat_map (time_at c.args.times.now) (range_with_len 0 c.args.harts)) _
    c.in_ok-put_time_lines.ensures
    (put_stopped _ _ (flat_map (losses_of c.args.times.now c.args.harts) (range_with_len 0 c.args.harts)) _
    c.in_err-put_loss_lines.ensures))

pub returns : goal.returns
unfolding times_text
returns g c =
    let losses = flat_map (losses_of c.args.times.now c.args.harts) (range_with_len 0 c.args.harts) in
    put_then c.put_total_line.result _ _ _ (flat_map (time_at c.args.times.now) (range_with_len 0 c.args.harts)) _
    c.in_ok-put_time_lines.ensures
    (same_puts c.put_total_line.result _ _ _ _ (ap (λ n. losses ++ total_line n) c.total.ensures)
    (put_then c.put_total_line.result _ _ _ losses _ c.in_ok-put_loss_lines.ensures c.put_total_line.ensures))
