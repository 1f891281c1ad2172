use Rattle.std.proofs.Common.{[], ◌∷◌, ◌++◌, ap, map, sym, ◌∙◌}
use Rattle.std.specs.Fmt.{decimal}
use Rattle.std.specs.Prelude.{codes}
use Rattle.report.specs.Line.{bytes_of, eight_digits, line}
use Rattle.report.specs.Text.{status_words}
use Rattle.report.proofs.report.put_with_status.Goals as goal
use Rattle.report.proofs.Laws.Puts.{same_puts}

pub returns-in-Trapped : goal.returns-in-Trapped
returns-in-Trapped g c =
    same_puts c.put_line-in-Trapped.result _ _ _ _
    (ap (λ more. line (codes "hart") (map bytes_of c.args.words.now ++ more))
    (ap (λ cause. codes "trap" ∷ decimal cause ∷ codes "at" ∷ eight_digits c.in-Trapped.pc ∷ [])
    c.into-in-Trapped.ensures
    ∙ ap status_words (sym c.in-Trapped.is)))
    c.put_line-in-Trapped.ensures
