-- a serve
use Rattle.std.proofs.Common.{◌∙◌, ◌++◌, ◌∷◌, [], Some, append_assoc, ap, sym}
use Rattle.std.specs.Option.{option_map}
use Rattle.el_base.proofs.Laws.Lines.{line_addr-of_line}
use Rattle.lab.proofs.lines.note_serve.Goals as goal
use Rattle.lab.specs.Asked.{numbered_asking}
use Rattle.lab.specs.Lines.{owner_facts, owner_in, served_facts}
use Rattle.lab.specs.declared.lines.LineFact.TheVariants.{Served}
use Rattle.machine.specs.Story.{state_of}

pub returns-in_ok-note_owner : goal.returns-in_ok-note_owner
returns-in_ok-note_owner c =
    let asked = c.in-Some.asked in
    let state = state_of c.args.machine.now in
    let old = c.args.facts.now.items in
    let line = asked.request.line in
    let before = option_map (λ hart. hart.number) asked.owner in
    let what = Served c.args.hart asked.request.need in
    c.in_ok-note_owner.ensures
    ∙ ap (λ l. l ++ owner_facts c.args.place line.number before (option_map (λ hart. hart.number) c.owner_of.result))
    c.in_ok-push.ensures.items
    ∙ append_assoc old (record { place = c.args.place; line = Some line; what = what } ∷ []) _
    ∙ ap (λ o. old ++ record { place = c.args.place; line = Some line; what = what } ∷ owner_facts c.args.place
    line.number before o) c.owner_of.ensures
    ∙ ap (λ l. old ++ record { place = c.args.place; line = Some l; what = what } ∷
    owner_facts c.args.place line.number before (owner_in state line.number))
    (sym (line_addr-of_line line))
    ∙ ap (λ a. old ++ served_facts c.args.place c.args.hart state (option_map numbered_asking a)) (sym c.in-Some.is)
