-- a live section goes on
use Rattle.std.proofs.Common.{◌∙◌, ap, subst, sym}
use Rattle.cache_sets.specs.Cached.{Cached, cached_byte}
use Rattle.cache_sets.specs.Slotted as caches
use Rattle.el_model.specs.Upcoming.{touch_of}
use Rattle.rv_alu.specs.Footprint.{footprint}
use Rattle.section_ctl.proofs.Laws.Begins.{is_live, stays_live}
use Rattle.section_ctl.proofs.Laws.Lent.{cache_stays}
use Rattle.section_ctl.specs.Calls.{IsCoveredIn, MayBuffer}
use Rattle.section_ctl.specs.Lent.{LendsBoth}
use Rattle.section_ctl.specs.State.{section_of}
use Rattle.section_view.specs.KeptRun.{section_byte}
use Rattle.write_hold.specs.Slotted as holds
use Rattle.section_ctl.proofs.section.Section.run_live.Goals as goal

pub invariant_of-self : goal.invariant_of-self
invariant_of-self c =
    let inside = c.self.inside in
    let live = c.args.live in
    let pool = c.args.pool.now in
    let cache : Cached = caches.lent pool c.args.sets.now in
    let was = is_live inside.marks inside.hold inside.private (section_of live) c.self.invariant
    (ap (λ state. state.live) c.self.view_is ∙ c.requires.is) in
    let may =
    subst (λ state. MayBuffer pool state (section_of live) cache c.args.action) (sym c.self.view_is)
    c.requires.buffered in
    stays_live pool c.run_over.new.pool inside.marks inside.hold c.run_over.new.hold (section_of live) _ c.args.action
    (section_byte (holds.lent pool inside.hold).entries live.word live.new (cached_byte cache)) c.run_over.new.view was
    may.goes_on may.unmixed
    c.run_over.ensures.view c.run_over.ensures.hold

pub returns-clause-cache : goal.returns-clause-cache
returns-clause-cache c =
    let pool = c.args.pool.now in
    let next = c.run_over.new.pool in
    let sets = c.args.sets.now in
    let owes = subst (λ state. LendsBoth pool sets state.hold) (sym c.self.view_is) c.requires.lent in
    subst (λ was. IsCoveredIn was (caches.lent next c.touch.new.sets) (touch_of (footprint c.args.action)))
    (cache_stays pool next sets c.self.inside.hold owes c.run_over.ensures.others) (c.touch.ensures.covered next)
