-- a section commits
use Rattle.std.proofs.Common.{◌≡◌, ◌<◌, ◌∙◌, Some, ap, refl, rules, subst, sym}
use Rattle.cache_sets.specs.Slotted as caches
use Rattle.reg_mark.specs.Marks.{unmarked}
use Rattle.section_ctl.proofs.Released.{finds_new}
use Rattle.section_ctl.proofs.Laws.Shows.{at_some, commits_run, if_some_map, of_some}
use Rattle.section_ctl.specs.Calls.{HasCommitted, HasReleased}
use Rattle.section_ctl.specs.Lent.{LeavesBeside}
use Rattle.section_ctl.specs.State.{hold_in, live_in, section_of, shown_state}
use Rattle.section_ctl.specs.declared.private.Private.TheVariants as privates
use Rattle.section_view.specs.KeptRun.{section_byte}
use Rattle.section_view.specs.Release.{IsReleaseAction}
use Rattle.write_hold.specs.Slotted as holds
use Rattle.section_ctl.proofs.section.Section.commit_action.Goals as goal

live : (c : goal.After-self-1) → c.args.self.now.live ≡ Some (section_of c.in-Live.live)
live c = ap (λ state. state.live) (sym c.self.view_is) ∙ ap live_in c.in-Live.is

-- of the section that the fields show
at_fields : (c : goal.After-self-1) →
    HasReleased c.args.pool.now (shown_state c.self.inside.marks c.self.inside.hold c.self.inside.private)
    (shown_state c.keep.new.self c.commit_into.new.hold privates.Nothing) (section_of c.in-Live.live) c.args.action
at_fields c =
    let inside = c.self.inside in
    let held = (holds.lent c.args.pool.now inside.hold).entries in
    let live_now = c.in-Live.live in
    let action = c.args.action in
    let small : live_now.new < 4294967296 = search rules in
    let release =
    of_some c.args.self.now.live (section_of live_now)
    (λ section. IsReleaseAction section.word section.old action) (live c)
    c.requires.release in
    record {
      marks = λ under.
          c.keep.ensures
          ∙ ap unmarked (c.perform.ensures.view (section_byte held live_now.word live_now.new under)
          (c.found_by-found.ensures ∙ finds_new action live_now.word live_now.old live_now.new held under
          small release));
      hold = c.commit_into.ensures.nothing;
      live = refl;
      armed = refl;
    }

pub returns-clause-released : goal.returns-clause-released
returns-clause-released c =
    let new = shown_state c.keep.new.self c.commit_into.new.hold privates.Nothing in
    at_some c.args.self.now.live (section_of c.in-Live.live)
    (λ section. HasReleased c.args.pool.now c.args.self.now new section c.args.action) (live c)
    (subst (λ state. HasReleased c.args.pool.now state new (section_of c.in-Live.live) c.args.action)
    c.self.view_is (at_fields c))

pub returns-clause-shows : goal.returns-clause-shows
returns-clause-shows c =
    let pool = c.args.pool.now in
    let old = caches.lent pool c.args.sets.now in
    let new = caches.lent c.commit_into.new.pool c.commit_into.new.sets in
    let puts =
    subst (λ state. HasCommitted old new (hold_in pool state).entries) c.self.view_is c.commit_into.ensures.cache in
    if_some_map c.args.self.now.live _ _
    (λ section released. commits_run pool c.args.self.now _ section old new c.args.action released puts)
    (returns-clause-released c)

pub returns-clause-beside : goal.returns-clause-beside
returns-clause-beside c =
    subst (λ state. LeavesBeside c.args.sets.now.owner state.hold.owner c.args.pool.now c.commit_into.new.pool)
    c.self.view_is
    c.commit_into.ensures.beside
