use Rattle.std.proofs.Common.{◌∙◌, arith}
use Rattle.trace_file.specs.Spelling.{listed}
use Rattle.trace_file.proofs.Judged.{is_whole}
use Rattle.trace_file.proofs.Laws.Spelled.{faultless_again, read_again}
use Rattle.trace_file.proofs.reading.read_trace.Goals as goal

pub returns-clause-accepted : goal.returns-clause-accepted
returns-clause-accepted c =
    is_whole
    c.args.file.now
    c.in_ok-trace.trace.config
    c.in_ok-trace.trace.events
    (listed c.in_ok-trace.trace.recorded)
    (λ i. omega (arith, c.type_inv.file i))
    c.in_ok-head.ensures.accepted
    c.in_ok-trace.ensures.config
    c.in_ok-trace.ensures.events
    c.in_ok-trace.ensures.recorded

pub returns-clause-spelled : goal.returns-clause-spelled
returns-clause-spelled c config events recorded is file-is =
    let again = read_again c.args.file.now config events recorded is file-is in (
      faultless_again c.args.file.now config events recorded is file-is,
      (
        c.in_ok-trace.ensures.config ∙ again.config,
        c.in_ok-trace.ensures.events ∙ again.events,
        c.in_ok-trace.ensures.recorded ∙ again.recorded,
      ),
    )
