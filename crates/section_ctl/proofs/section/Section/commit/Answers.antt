-- a section commits by the instruction of its release
use Rattle.std.proofs.Common.{◌≡◌, ◌<◌, ◌∙◌, Some, ap, rules, subst, sym}
use Rattle.cache_sets.specs.Slotted as caches
use Rattle.rv_word.specs.Decoding.{decoded}
use Rattle.section_ctl.proofs.Released.{released_by, releases_by}
use Rattle.section_ctl.proofs.Laws.Shows.{at_some, commits_code, of_some}
use Rattle.section_ctl.specs.Calls.{HasReleased, HasReleasedBy}
use Rattle.section_ctl.specs.PrivateRuns.{CommitsCode}
use Rattle.section_ctl.specs.State.{live_in, section_of}
use Rattle.section_view.specs.Release.{IsReleaseAction}
use Rattle.section_ctl.proofs.section.Section.commit.Goals as goal

pub commit_action-requires-clause-release : goal.commit_action-requires-clause-release
commit_action-requires-clause-release c =
    let live = c.in-Live.live in
    let shown = ap (λ state. state.live) (sym c.self.view_is) ∙ ap live_in c.in-Live.is in
    at_some c.args.self.now.live (section_of live)
    (λ section. IsReleaseAction section.word section.old c.release_by.result) shown
    (subst (IsReleaseAction live.word live.old) (sym c.release_by.ensures)
    (releases_by (decoded c.args.code) live.word live.old))

live : (c : goal.After-commit_action) → c.args.self.now.live ≡ Some (section_of c.in-Live.live)
live c = ap (λ state. state.live) (sym c.self.view_is) ∙ ap live_in c.in-Live.is

by_code : (c : goal.After-commit_action) →
    HasReleasedBy c.args.self.now c.commit_action.new.self (section_of c.in-Live.live) (decoded c.args.code)
by_code c =
    let section = section_of c.in-Live.live in
    let old = c.args.self.now in
    let new = c.commit_action.new.self in
    let small : c.in-Live.live.new < 4294967296 = search rules in
    let released = of_some old.live section (λ section. HasReleased c.args.pool.now old new section
    c.release_by.result) (live c) c.commit_action.ensures.released in
    released_by c.args.pool.now old new section (decoded c.args.code) c.requires.release small
    (subst (HasReleased c.args.pool.now old new section) c.release_by.ensures released)

pub returns-clause-released : goal.returns-clause-released
returns-clause-released c =
    at_some c.args.self.now.live (section_of c.in-Live.live)
    (λ section. HasReleasedBy c.args.self.now c.commit_action.new.self section (decoded c.args.code))
    (live c) (by_code c)

pub returns-clause-shows : goal.returns-clause-shows
returns-clause-shows c =
    let section = section_of c.in-Live.live in
    let old = c.args.self.now in
    let new = c.commit_action.new.self in
    let pool = c.args.pool.now in
    let cache = caches.lent pool c.args.sets.now in
    let filled = caches.lent c.commit_action.new.pool c.commit_action.new.sets in
    let small : c.in-Live.live.new < 4294967296 = search rules in
    at_some old.live section (λ section. CommitsCode pool old new section cache filled c.args.code) (live c)
    (commits_code pool old new section cache filled c.args.code (by_code c) small c.commit_action.ensures.cache)
