use Rattle.std.proofs.Common.{[], ◌∷◌, ap}
use Rattle.std.specs.Fmt.{decimal}
use Rattle.report.specs.Line.{line}
use Rattle.report.proofs.Laws.Puts.{same_puts}
use Rattle.tool.proofs.refusal.put_number.Goals as goal

pub returns : goal.returns
returns g c =
    same_puts c.put_line.result _ _ _ _ (ap (λ number. line c.args.text.now (decimal number ∷ [])) c.into.ensures)
    c.put_line.ensures
