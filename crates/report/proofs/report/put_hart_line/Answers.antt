use Rattle.std.proofs.Common.{refl}
use Rattle.report.proofs.Reporting.{hart_line_put}
use Rattle.report.proofs.report.put_hart_line.Goals as goal

pub returns : goal.returns
returns g c =
    hart_line_put c.put_with_status.result _ _ c.args.number c.args.tally c.args.status _ _ c.hart_words.ensures refl
    c.put_with_status.ensures
