use Rattle.std.proofs.Common.{ap, length, sym, subst, ◌∙◌, ◌≤◌}
use Rattle.bus_lock.specs.Locks.{started_with}
use Rattle.drive.proofs.Ending.{closed_after_all}
use Rattle.drive.specs.Drivers.{MakesTurns}
use Rattle.drive.specs.Turns.{RoundStory, round_opening}
use Rattle.machine.specs.Story.{Story}
use Rattle.drive.proofs.threads.by_threads.Goals as goal

pub returns-clause-made : goal.returns-clause-made
returns-clause-made g c =
    let start : RoundStory = started_with c.in-Ok.made.0 in let first = c.in-Ok.ensures.pass in
    let is = c.in-Ok.ensures.made ∙ c.begin.ensures.story in
    let opening = c.close.ensures.opening ∙ (c.drive_all-pass.ensures.same.1
    ∙ (ap (λ p. p.opening) first ∙ ap round_opening (sym c.in-Ok.ensures.made))) in
    let begun = ap (λ p. p.seen) first ∙ ap (λ (r : RoundStory). r.now.entries) c.begin.ensures.story in
    subst (MakesTurns c.args.turns c.args.machine) (sym c.into_machine-2.ensures.story)
    (closed_after_all c.args.machine c.args.turns _ start c.close.result _ _ c.openings_tell_beginnings.ensures is
    (ap (λ s. s.harts) c.config-harts.ensures.exact) begun c.drive_all-pass.ensures.seen c.drive_all-pass.ensures.round
    c.drive_all-pass.ensures.ended opening c.close.ensures.entries
    (subst (λ (m : Story). length m.entries ≤ m.config.steps) c.into_machine-2.ensures.story
    c.into_machine-2.ensures.within))
