-- a line was written back
use Rattle.std.proofs.Common.{◌∙◌, ◌++◌, ◌∷◌, [], Some, ap, sym}
use Rattle.std.specs.Option.{option_map}
use Rattle.el_base.proofs.Laws.Lines.{line_addr-of_line}
use Rattle.lab.proofs.lines.note_back.Goals as goal
use Rattle.lab.specs.Lines.{back_facts, if_served}
use Rattle.lab.specs.declared.lines.LineFact.TheVariants.{WroteBack}

pub returns-in_ok-push-in-Served : goal.returns-in_ok-push-in-Served
returns-in_ok-push-in-Served c =
    let line = c.in-Some.line in
    let old = c.args.facts.now.items in
    c.in_ok-push-in-Served.ensures.items
    ∙ ap (λ l. old ++ record { place = c.args.place; line = Some l; what = WroteBack c.args.hart } ∷ [])
    (sym (line_addr-of_line line))
    ∙ ap (λ b. old ++ back_facts c.args.place c.args.hart (option_map (λ l. l.number) b)) (sym c.in-Some.is)
    ∙ ap (λ o. old ++ back_facts c.args.place c.args.hart (if_served o (option_map (λ l. l.number) c.args.back)))
    (sym c.in-Served.is)
