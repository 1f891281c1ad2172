-- the line of the address is the one that its number names
use Rattle.std.proofs.Common.{sym, ◌∙◌}
use Rattle.core_step.proofs.Wants.{refused_line}
use Rattle.core_step.proofs.want.refused.Goals as goal

pub returns-else-ask : goal.returns-else-ask
returns-else-ask g c =
    refused_line (g.P.Port.permits c.args.port.now) c.args.address c.line_of-line.result c.args.need
    c.ranges.address.fits c.line_of-line.ensures
    (sym c.ask.ensures ∙ c.if-ask.false)
