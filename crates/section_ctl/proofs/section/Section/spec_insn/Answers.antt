-- an instruction of a section, whatever the room of the output
use Rattle.std.proofs.Common.{◌≡◌, ◌∙◌, false, ap, sym, subst}
use Rattle.std.specs.Prelude.{IfSome, Some, ℕ}
use Rattle.cache_sets.specs.Slotted as caches
use Rattle.rv_alu.specs.Action.{action_at}
use Rattle.section_ctl.proofs.AnyRoom.{any_room}
use Rattle.section_ctl.proofs.Arming.{quiet_goes}
use Rattle.section_ctl.proofs.Laws.Shows.{of_either}
use Rattle.section_ctl.specs.Calls.{HasContinued, HasRun, ends_section, run_of}
use Rattle.section_ctl.specs.PrivateRuns.{ContinuesRun, GoesOnRun}
use Rattle.section_ctl.proofs.section.Section.spec_insn.Goals as goal

same : (c : goal.After-spec_action) (room : ℕ) →
    c.at-action.result ≡ action_at (Some c.args.word) c.args.self.now.marks.present c.args.span room
same c room =
    let word = c.args.word in
    let present = c.args.self.now.marks.present in
    let goes : ends_section (action_at (Some word) present c.args.span 0) ≡ false =
    of_either c.args.self.now.live c.args.self.now.armed _ _ _ c.requires.either c.requires.buffered c.requires.quiet
    (λ section may. may.goes_on)
    (λ reserved may. quiet_goes (action_at (Some word) present c.args.span 0) may.quiet) in
    c.at-action.ensures.value ∙ ap (λ state. action_at (Some word) state.marks.present c.args.span 0) c.self.view_is
    ∙ sym (any_room word present c.args.span room goes)

pub returns-clause-ran : goal.returns-clause-ran
returns-clause-ran c room =
    let old = c.args.self.now in
    let pool = c.args.pool.now in
    let cache = caches.lent pool c.args.sets.now in
    let next = c.spec_action.new.pool in
    subst
    (λ action. IfSome old.live
    (λ section. HasRun pool next old c.spec_action.new.self section (run_of pool old section cache action)))
    (same c room)
    c.spec_action.ensures.ran

pub returns-clause-continued : goal.returns-clause-continued
returns-clause-continued c room =
    let old = c.args.self.now in
    subst (λ action. IfSome old.armed (λ reserved. HasContinued old c.spec_action.new.self reserved action))
    (same c room)
    c.spec_action.ensures.continued

pub returns-clause-shows : goal.returns-clause-shows
returns-clause-shows c room =
    let old = c.args.self.now in
    let pool = c.args.pool.now in
    let cache = caches.lent pool c.args.sets.now in
    let next = c.spec_action.new.pool in
    subst (λ action. IfSome old.live (λ section. GoesOnRun pool next old c.spec_action.new.self section cache action))
    (same c room)
    c.spec_action.ensures.shows

pub returns-clause-shows_armed : goal.returns-clause-shows_armed
returns-clause-shows_armed c room =
    let old = c.args.self.now in
    subst (λ action. IfSome old.armed (λ reserved. ContinuesRun old c.spec_action.new.self reserved action))
    (same c room)
    c.spec_action.ensures.shows_armed
