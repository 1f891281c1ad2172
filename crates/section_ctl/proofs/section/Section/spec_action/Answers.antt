-- a live section goes on, or an armed one
use Rattle.std.proofs.Common.{◌≡◌, ◌∙◌, Some, ap, sym}
use Rattle.cache_sets.specs.Slotted as caches
use Rattle.section_ctl.proofs.Arming.{continues_run}
use Rattle.section_ctl.proofs.Laws.Shows.{at_some, goes_on_run, marked_after, of_some}
use Rattle.section_ctl.specs.Calls.{MayBuffer}
use Rattle.section_ctl.specs.PrivateRuns.{ContinuesRun, GoesOnRun}
use Rattle.section_ctl.specs.State.{armed_in, live_in, reserved_of, section_of}
use Rattle.section_ctl.proofs.section.Section.spec_action.Goals as goal

live : (c : goal.After-run_live) → c.args.self.now.live ≡ Some (section_of c.in-Live.live)
live c = ap (λ state. state.live) (sym c.self.view_is) ∙ ap live_in c.in-Live.is

armed : (c : goal.After-run_armed) → c.args.self.now.armed ≡ Some (reserved_of c.in-Armed.reserved)
armed c = ap (λ state. state.armed) (sym c.self.view_is) ∙ ap armed_in c.in-Armed.is

pub returns-in-Live-clause-marked : goal.returns-in-Live-clause-marked
returns-in-Live-clause-marked c =
    let section = section_of c.in-Live.live in
    let pool = c.args.pool.now in
    let next = c.run_live.new.pool in
    let cache = caches.lent pool c.args.sets.now in
    let may =
    of_some c.args.self.now.live section (λ s. MayBuffer pool c.args.self.now s cache c.args.action) (live c)
    c.requires.buffered in
    marked_after pool next c.args.self.now _ section cache (caches.lent next c.run_live.new.sets) c.args.action may.bit
    c.requires.marked
    c.run_live.ensures.ran c.run_live.ensures.cache

pub returns-in-Live-clause-shows : goal.returns-in-Live-clause-shows
returns-in-Live-clause-shows c =
    let section = section_of c.in-Live.live in
    let pool = c.args.pool.now in
    let next = c.run_live.new.pool in
    let cache = caches.lent pool c.args.sets.now in
    at_some c.args.self.now.live section
    (λ s. GoesOnRun pool next c.args.self.now c.run_live.new.self s cache c.args.action) (live c)
    (goes_on_run pool next c.args.self.now c.run_live.new.self section cache c.args.action c.run_live.ensures.ran)

pub returns-in-Armed-clause-shows_armed : goal.returns-in-Armed-clause-shows_armed
returns-in-Armed-clause-shows_armed c =
    let reserved = reserved_of c.in-Armed.reserved in
    at_some c.args.self.now.armed reserved (λ r. ContinuesRun c.args.self.now c.run_armed.new.self r c.args.action)
    (armed c)
    (continues_run c.args.self.now c.run_armed.new.self reserved c.args.action c.run_armed.ensures)
