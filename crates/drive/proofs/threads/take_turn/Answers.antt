use Rattle.std.proofs.Common.{◌≡◌, ◌+◌, ◌≤◌, ◌++◌, ◌∷◌, [], ap, inr, sym, arith, ◌∙◌}
use Rattle.bus_lock.specs.Locks.{started_with}
use Rattle.drive.proofs.Ending.{same_round, turns_grow}
use Rattle.drive.specs.Turns.{RoundStory, round_at, round_opening, turns_of}
use Rattle.el_base.specs.declared.entries.Entry.{Entry}
use Rattle.el_model.specs.Next.{next}
use Rattle.machine.specs.Story.{state_of}
use Rattle.drive.proofs.threads.take_turn.Goals as goal

pub release-requires-2-clause-entries : goal.release-requires-2-clause-entries
release-requires-2-clause-entries g c =
    let goes = c.make_turn.ensures.goes_on in let old : RoundStory = c.change.result.now in
    let entry : Entry = record { event = goes.0; outcome = (next (state_of old.now) goes.0).outcome } in
    let found =
    ap (λ (r : RoundStory). r.now.entries) c.change.ensures.value
    ∙ sym (ap (λ p. p.seen) c.hold-held.ensures.pass) in
    inr (entry, ap (λ (r : RoundStory). r.now.entries) goes.2 ∙ ap (λ l. l ++ entry ∷ []) found)

pub returns-clause-made : goal.returns-clause-made
returns-clause-made g c = λ _.
    let start : RoundStory = started_with c.args.lock.now in let old : RoundStory = c.hold-held.result.value in
    let new : RoundStory = c.make_turn.new.self in let hart = c.args.driver.number in
    let tell = c.openings_tell_beginnings.ensures in
    let opening : round_opening old ≡ round_opening start = c.hold-held.ensures.opening ∙ c.requires.opening in
    let opening' : round_opening new ≡ round_opening start =
    ap round_opening c.make_turn.ensures.goes_on.2 ∙ (ap round_opening c.change.ensures.value ∙ opening) in
    let a : turns_of old hart ≡ turns_of (round_at start old.now.entries) hart =
    ap (λ (r : RoundStory). turns_of r hart) (same_round start old tell opening) in
    let b : turns_of new hart ≡ turns_of (round_at start new.now.entries) hart =
    ap (λ (r : RoundStory). turns_of r hart) (same_round start new tell opening') in
    let made : turns_of new hart ≡ turns_of old hart + 1 =
    c.make_turn.ensures.made ∙ ap (λ (r : RoundStory). turns_of r hart + 1) c.change.ensures.value in
    let seen : turns_of (round_at start c.release-2.result.seen) hart ≡ turns_of (round_at start new.now.entries) hart =
    ap (λ p. turns_of (round_at start p.seen) hart) c.release-2.ensures in
    let grown : turns_of (round_at start c.args.pass.seen) hart ≤ turns_of (round_at start old.now.entries) hart =
    turns_grow start c.args.pass.seen old.now.entries hart c.requires.round.within c.hold-held.ensures.begins in
    omega (arith, a, b, made, seen, grown)
