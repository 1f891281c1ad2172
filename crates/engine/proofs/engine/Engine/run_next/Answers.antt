-- what each call leaves, and the state after them
use Rattle.std.proofs.Common.{◌≡◌, ◌∙◌, None, ap, sym, subst}
use Rattle.cache_sets.specs.Slotted.{IsLent}
use Rattle.cached_step.specs.CacheRun.{permitted}
use Rattle.core_step.proofs.Laws.Runs.{aligned}
use Rattle.core_step.specs.Run.{IsAligned, lacking}
use Rattle.engine.proofs.Chosen.{lacks_nothing}
use Rattle.engine.proofs.Outsiders.{ran_outcome}
use Rattle.engine.proofs.RunsNext.{after_ran, learnt_section, lent_mid, may_append, ready_ran}
use Rattle.engine.proofs.StandsOutside.{lends, no_armed, runs}
use Rattle.engine.proofs.engine.Engine.run_next.Goals as goal
use Rattle.engine.specs.Acting.{cache_in, sets_in}
use Rattle.engine.specs.Outside.{RanIn}
use Rattle.engine.specs.Parts.{own_at, parts, present_at}
use Rattle.rv_alu.specs.Footprint.{footprint}

pub next_exchange-exchange-requires-clause-permitted : goal.next_exchange-exchange-requires-clause-permitted
next_exchange-exchange-requires-clause-permitted c =
    let acts = c.requires.some.acts in
    lacks_nothing (parts c.args.self.now) c.args.hart.number c.requires.some.from c.args.action acts c.requires.action _
    (c.requires.runs c.requires.some.from acts)

pub run_in_cache-requires-clause-no_armed : goal.run_in_cache-requires-clause-no_armed
run_in_cache-requires-clause-no_armed c =
    let acts = c.requires.some.acts in
    ap (λ p. (own_at p.harts c.args.hart.number).section.armed) (c.learn.ensures c.requires.some.from acts)
    ∙ ap (λ section. section.armed)
    (learnt_section (parts c.args.self.now) c.args.hart.number c.requires.some.from acts)
    ∙ no_armed (parts c.args.self.now) c.args.hart.number c.requires.some.from acts

pub run_in_cache-requires-clause-running : goal.run_in_cache-requires-clause-running
run_in_cache-requires-clause-running c =
    let acts = c.requires.some.acts in
    ap (λ p. (present_at p.harts c.args.hart.number).status) (c.learn.ensures c.requires.some.from acts)
    ∙ ap (λ section. section.marks.present.status)
    (learnt_section (parts c.args.self.now) c.args.hart.number c.requires.some.from acts)
    ∙ runs (parts c.args.self.now) c.args.hart.number c.requires.some.from acts

pub run_in_cache-requires-clause-aligned : goal.run_in_cache-requires-clause-aligned
run_in_cache-requires-clause-aligned c = subst IsAligned (sym c.requires.action) (aligned _ _ _ _)

pub run_in_cache-requires-clause-permitted : goal.run_in_cache-requires-clause-permitted
run_in_cache-requires-clause-permitted c =
    let acts = c.requires.some.acts in
    subst (λ p. lacking (permitted (cache_in p c.args.hart.number)) (footprint c.args.action) ≡ None)
    (sym (c.learn.ensures c.requires.some.from acts))
    (lacks_nothing (parts c.args.self.now) c.args.hart.number c.requires.some.from c.args.action acts
    c.requires.action _
    (c.requires.runs c.requires.some.from acts))

pub take_effect-requires-clause-can_append : goal.take_effect-requires-clause-can_append
take_effect-requires-clause-can_append c =
    let old = parts c.args.self.now in
    let h = c.args.hart.number in
    let from = c.requires.some.from in
    let acts = c.requires.some.acts in
    may_append old (parts c.run_in_cache.new.self) h from c.args.action acts
    (subst (λ p. RanIn p (parts c.run_in_cache.new.self) h c.args.action) (c.learn.ensures from acts)
    c.run_in_cache.ensures) c.requires.in_place
    (lacks_nothing old h from c.args.action acts c.requires.action _ (c.requires.runs from acts))

pub run_in_cache-requires-clause-lent : goal.run_in_cache-requires-clause-lent
run_in_cache-requires-clause-lent c =
    let acts = c.requires.some.acts in
    subst (λ p. IsLent p.pool (sets_in p c.args.hart.number)) (sym (c.learn.ensures c.requires.some.from acts))
    (lends (parts c.args.self.now) c.args.hart.number c.requires.some.from acts)

pub take_effect-requires-clause-lent : goal.take_effect-requires-clause-lent
take_effect-requires-clause-lent c =
    let acts = c.requires.some.acts in
    lent_mid (parts c.args.self.now) (parts c.run_in_cache.new.self) c.args.hart.number c.requires.some.from
    c.args.action acts
    (subst (λ p. RanIn p (parts c.run_in_cache.new.self) c.args.hart.number c.args.action)
    (c.learn.ensures c.requires.some.from acts)
    c.run_in_cache.ensures)

pub returns : goal.returns
returns c =
    let old = parts c.args.self.now in
    let mid = parts c.run_in_cache.new.self in
    let new = parts c.take_effect.new.self in
    let h = c.args.hart.number in
    let action = c.args.action in
    let some = c.requires.some in
    record {
      ready =
          ready_ran old mid new h some.from action some.acts
          (subst (λ p. RanIn p mid h action) (c.learn.ensures some.from some.acts) c.run_in_cache.ensures)
          c.requires.action
          c.requires.in_place
          (lacks_nothing old h some.from action some.acts c.requires.action _ (c.requires.runs some.from some.acts))
          c.requires.no_request c.take_effect.ensures;
      state = λ from acts.
          after_ran old mid new c.args.hart from action acts
          (subst (λ p. RanIn p mid h action) (c.learn.ensures from acts) c.run_in_cache.ensures) c.requires.action
          c.requires.in_place (lacks_nothing old h from action acts c.requires.action _ (c.requires.runs from acts))
          (c.requires.runs from acts) c.take_effect.ensures;
      outcome = λ from acts. ran_outcome from h _;
      memory_stays =
          ap (λ p. p.bus.copies.lines) c.take_effect.ensures
          ∙ ap (λ p. p.bus.copies.lines) c.run_in_cache.ensures.new_is
          ∙ ap (λ p. p.bus.copies.lines) (c.learn.ensures some.from some.acts);
    }
