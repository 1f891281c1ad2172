-- a section that comes to its release commits
use Rattle.std.proofs.Common.{◌≡◌, ◌∙◌, ◌==◌, ℕ, true, false, Some, is_some, refl, ap, if◌then◌else◌}
use Rattle.el_base.specs.declared.events.Event.{Event}
use Rattle.el_base.specs.declared.events.Kind.TheVariants as kinds
use Rattle.el_base.proofs.Laws.Tests.{other_test}
use Rattle.el_model.specs.InSection.{Commits, by_section_rule, section_rule, section_turn, shown_in}
use Rattle.el_model.specs.Next.{after, going_turn, kind_turn, next, stalled, status_turn, step_turn}
use Rattle.el_model.specs.State.{ModelState, Section, has_request, section_of}
use Rattle.el_model.specs.Upcoming.{is_release}
use Rattle.el_model.proofs.Laws.FromStart.{after_config}
use Rattle.rv_alu.specs.declared.view.HartStatus.TheVariants.{Running}
use Rattle.rv_flat.specs.FlatState.{status_of}
use Rattle.section_laws.proofs.Laws.Numbered.{each_hart_waits_for_one}
use Rattle.section_laws.proofs.Laws.Waiting.{live_runs}
use Rattle.run_laws.proofs.Laws.WordStores.{releases}
use Rattle.run_laws.specs.Laws.{ReleasesCommit, TakesEffect}

commits_by_rule : (state : ModelState) (h : ℕ) (section : Section) → (section.count == state.config.long) ≡ false →
    is_release (shown_in state h section) h section.word section.old ≡ true → section_rule state h section ≡ Commits
commits_by_rule state h section short release =
    let goes_on = (releases (shown_in state h section) h section.word section.old release).goes_on in
    rw (short, goes_on, release) refl

commits_next : (state : ModelState) (event : Event) (section : Section) → event.kind ≡ kinds.Step →
    status_of state.committed event.hart.number ≡ Running → has_request state event.hart.number ≡ false →
    section_of state event.hart.number ≡ Some section → section_rule state event.hart.number section ≡ Commits →
    next state event ≡ by_section_rule state event.hart.number section Commits
unfolding next step_turn section_turn
commits_next state event section step running free live rule =
    let h = event.hart.number in
    ap (kind_turn state h) step ∙ ap (status_turn state h) running
    ∙ ap (λ test. if test then stalled state else going_turn state h (section_of state h)) free
    ∙ ap (going_turn state h) live ∙ ap (by_section_rule state h section) rule

takes_effect : (state : ModelState) (event : Event) (section : Section) →
    next state event ≡ by_section_rule state event.hart.number section Commits → TakesEffect state event section
unfolding by_section_rule
takes_effect state event section same =
    record { outcome = ap (λ turn. turn.outcome) same; committed = ap (λ turn. turn.state.committed) same }

pub releases_commit : ReleasesCommit
releases_commit program config events event section step live free longest release =
    let state = after program config events in
    let h = event.hart.number in
    let short = ap (λ config. section.count == config.long) (after_config program config events)
    ∙ other_test section.count config.long longest in
    takes_effect state event section
    (commits_next state event section step
    (live_runs state h (each_hart_waits_for_one program config events) (ap is_some live)) free live
    (commits_by_rule state h section short release))
