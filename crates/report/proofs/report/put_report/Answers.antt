use Rattle.std.proofs.Common.{length, ap, ◌∙◌}
use Rattle.chronicle.specs.Chronicle.{Chronicle}
use Rattle.chronicle.specs.Serial.{serial}
use Rattle.report.proofs.Putting.{failed_puts}
use Rattle.report.proofs.Reporting.{report_put, report_stopped_at_first, report_stopped_at_hart}
use Rattle.report.proofs.report.put_report.Goals as goal

pub returns-in_err-put_first_line : goal.returns-in_err-put_first_line
returns-in_err-put_first_line g c =
    failed_puts c.from_residual.result _ _ _ c.from_residual.ensures.0
    (report_stopped_at_first _ _ c.args.machine.now _ _ c.config.ensures.exact
    (c.length.ensures ∙ ap (λ (history : Chronicle). length history.entries) c.history-history.ensures.exact)
    c.in_err-put_first_line.ensures)

pub returns-in_err-put_hart_lines : goal.returns-in_err-put_hart_lines
returns-in_err-put_hart_lines g c =
    failed_puts c.from_residual-in_err-put_hart_lines.result _ _ _ c.from_residual-in_err-put_hart_lines.ensures.0
    (report_stopped_at_hart _ _ _ c.args.machine.now _ _ c.config.ensures.exact
    (c.length.ensures ∙ ap (λ (history : Chronicle). length history.entries) c.history-history.ensures.exact)
    c.in_ok-put_first_line.ensures c.in_err-put_hart_lines.ensures)

pub returns : goal.returns
returns g c =
    report_put c.put_last_line.result _ _ _ _ c.args.machine.now _ _ _ _ c.config.ensures.exact
    (c.length.ensures ∙ ap (λ (history : Chronicle). length history.entries) c.history-history.ensures.exact)
    (c.serial_len.ensures ∙ ap (λ (history : Chronicle). length (serial history.entries))
    c.history-history.ensures.exact)
    (ap length c.output.ensures.exact)
    c.in_ok-put_first_line.ensures c.in_ok-put_hart_lines.ensures c.put_last_line.ensures
