use Rattle.tool.proofs.Putting.{on_failure, part_of_times}
use Rattle.tool.proofs.telling.put_report.Goals as goal

pub returns-in_err-write_times-clause-part_after_failed : goal.returns-in_err-write_times-clause-part_after_failed
returns-in_err-write_times-clause-part_after_failed g c =
    on_failure c.from_residual-in_err-write_times.result
    (part_of_times _ _ _ c.args.machine.now c.history.result.now c.config.result c.args.times
    c.tabulate.result c.if-times.true
    c.config.ensures.exact c.history.ensures.exact c.tabulate.ensures
    c.in_ok-write_report.ensures.all_taken c.in_err-write_times.ensures.part_after_failed)
