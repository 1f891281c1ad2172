use Rattle.std.proofs.Common.{[], ◌∷◌, ap, ◌∙◌}
use Rattle.std.specs.Prelude.{codes}
use Rattle.std.specs.Fmt.{decimal}
use Rattle.el_base.specs.ConfigFaults.{number_of}
use Rattle.report.specs.Line.{line}
use Rattle.report.proofs.Laws.Puts.{same_puts}
use Rattle.tool.proofs.refusal.put_config.Goals as goal

pub returns : goal.returns
returns g c =
    same_puts c.put_line.result _ _ _ _
    (ap (λ number. line (codes "config fault") (decimal number ∷ c.name.result.now ∷ []))
    (c.into.ensures ∙ c.number.ensures)
    ∙ ap (λ name. line (codes "config fault") (decimal (number_of c.args.fault) ∷ name ∷ [])) c.name.ensures)
    c.put_line.ensures
