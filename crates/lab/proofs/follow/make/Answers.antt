-- one event, noted
use Rattle.std.proofs.Common.{◌∙◌, ap, length, sym}
use Rattle.std.specs.Option.{option_map}
use Rattle.std.proofs.lemmas.Result.{on_ok_weaker}
use Rattle.lab.proofs.Following.{noted_moment, step_keeps}
use Rattle.lab.proofs.Lining.{back_told, lines_told}
use Rattle.lab.proofs.Living.{none_before}
use Rattle.lab.proofs.Swapping.{swap_told}
use Rattle.lab.proofs.follow.make.Goals as goal
use Rattle.lab.specs.Asked.{numbered_asking}
use Rattle.machine.specs.Story.{state_of}

pub note-requires-clause-one_each : goal.note-requires-clause-one_each
note-requires-clause-one_each c =
    λ began. none_before (state_of c.args.machine.now) 0 c.args.event c.args.watched.now.tries
    (sym c.step-outcome.ensures.outcome ∙ began) c.requires.live

pub returns-clause-tries : goal.returns-clause-tries
returns-clause-tries c =
    on_ok_weaker c.note_back.result
    (λ told. noted_moment c.args.machine.now c.step-outcome.new.self c.args.event c.step-outcome.result
    c.length-place.result
    c.counts-ran.result c.args.watched.now.tries c.note.new.self c.step-outcome.ensures.goes_on
    c.step-outcome.ensures.outcome
    c.counts-ran.ensures (c.length-place.ensures ∙ ap (λ h. length h.entries) c.history.ensures.exact)
    c.in_ok-note.ensures)
    c.note_back.ensures

pub returns-clause-live : goal.returns-clause-live
returns-clause-live c =
    on_ok_weaker c.note_back.result
    (step_keeps c.args.machine.now c.step-outcome.new.self c.args.event c.step-outcome.result
    (length c.args.machine.now.entries)
    c.args.watched.now.tries c.note.new.self c.step-outcome.ensures.goes_on c.step-outcome.ensures.outcome
    c.step-outcome.ensures.ends_are_named
    c.requires.live)
    (returns-clause-tries c)

pub returns-clause-swaps : goal.returns-clause-swaps
returns-clause-swaps c =
    on_ok_weaker c.note_back.result
    (λ told. swap_told c.args.machine.now c.args.event c.step-outcome.result c.swap_before-swap.result
    c.args.watched.now.swaps.items
    c.note_swap.new.swaps.items c.step-outcome.ensures.outcome c.swap_before-swap.ensures c.in_ok-note_swap.ensures)
    c.note_back.ensures

pub returns-clause-facts : goal.returns-clause-facts
returns-clause-facts c =
    let at = c.length-place.ensures ∙ ap (λ h. length h.entries) c.history.ensures.exact in
    on_ok_weaker c.note_back.result
    (back_told c.args.machine.now c.args.event c.step-outcome.result c.length-place.result
    (option_map (λ line. line.number) c.back_before-back.result) c.args.watched.now.facts.items
    c.note_lines.new.facts.items
    c.note_back.new.facts.items c.step-outcome.ensures.outcome at c.back_before-back.ensures
    (lines_told c.args.machine.now c.step-outcome.new.self c.args.event c.step-outcome.result c.length-place.result
    (option_map numbered_asking c.asked_before-asked.result) c.args.watched.now.facts.items c.note_lines.new.facts.items
    c.step-outcome.ensures.goes_on c.step-outcome.ensures.outcome at c.asked_before-asked.ensures
    c.in_ok-note_lines.ensures))
    c.note_back.ensures
