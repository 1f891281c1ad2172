-- the action is a load reserved, whose line is there, and the parts are in the state after it
use Rattle.std.proofs.Common.{◌≡◌, ◌∙◌, ap, subst, sym, true}
use Rattle.residency.specs.Cache.{is_resident}
use Rattle.coherence.specs.Lent.{slotted_at}
use Rattle.core_step.proofs.Laws.Runs.{aligned}
use Rattle.core_step.specs.Run.{IsAligned}
use Rattle.el_model.specs.Plain.{Arms, by_plain_rule}
use Rattle.engine.proofs.AfterArmed.{armed_in, armed_ready, arms_outcome, inside_bus, still_there}
use Rattle.engine.proofs.Chosen.{arms_not_plain, reserved_there, reserves_next}
use Rattle.engine.proofs.Framed.{own_read}
use Rattle.engine.proofs.StandsOutside.{no_armed, no_live, runs}
use Rattle.engine.proofs.Stepped.{set_in}
use Rattle.engine.proofs.Laws.Swaps.{reserve_aligned, same_reserve}
use Rattle.engine.proofs.engine.Engine.arm.Goals as goal
use Rattle.engine.specs.Beginning.{IsReadMarked}
use Rattle.engine.specs.Parts.{IsInState, own_at, parts}
use Rattle.hart_state.specs.Deeds.{armed_own}
use Rattle.hart_state.specs.Own.{OwnState}
use Rattle.snoop.specs.Returned.{returned}
use Rattle.snoop.specs.Shows.{IsReady, bus_state}

pub mark_read-requires-clause-cache_exists : goal.mark_read-requires-clause-cache_exists
mark_read-requires-clause-cache_exists c =
    inside_bus (parts c.args.self.now) (bus_state c.note_armed.new.self) c.args.hart c.requires.some.from
    c.requires.some.acts c.args.word c.note_armed.ensures

pub mark_read-requires-clause-resident : goal.mark_read-requires-clause-resident
mark_read-requires-clause-resident c =
    let old = parts c.args.self.now in
    let from = c.requires.some.from in
    let acts = c.requires.some.acts in
    subst (λ line. is_resident (slotted_at (bus_state c.note_armed.new.self).copies.caches c.args.hart.number).residency
    line ≡ true)
    (sym c.line_of.ensures)
    (still_there old (bus_state c.note_armed.new.self) c.args.hart from acts c.args.word c.note_armed.ensures
    (reserved_there old c.args.hart.number from c.args.action acts c.requires.action c.args.word
    (c.requires.arms from acts)))

-- what the hart keeps is as it was
kept_own : (c : goal.After-index_mut) → c.index_mut.result.now ≡ own_at (parts c.args.self.now).harts c.args.hart.number
kept_own c =
    own_read _ (parts c.args.self.now).harts _ c.args.hart.number _ (ap (λ p. p.harts) c.mark_read.ensures.new_is)
    c.from.ensures c.requires.some.acts.may.exists c.index_mut.ensures.value

pub arm-requires-clause-none : goal.arm-requires-clause-none
arm-requires-clause-none c =
    ap (λ own. own.section.live) (kept_own c) ∙ no_live (parts c.args.self.now) c.args.hart.number c.requires.some.from
    c.requires.some.acts

pub arm-requires-clause-unarmed : goal.arm-requires-clause-unarmed
arm-requires-clause-unarmed c =
    ap (λ own. own.section.armed) (kept_own c) ∙ no_armed (parts c.args.self.now) c.args.hart.number
    c.requires.some.from c.requires.some.acts

pub arm-requires-clause-running : goal.arm-requires-clause-running
arm-requires-clause-running c =
    ap (λ own. own.section.marks.present.status) (kept_own c)
    ∙ runs (parts c.args.self.now) c.args.hart.number c.requires.some.from c.requires.some.acts

pub arm-requires-clause-aligned : goal.arm-requires-clause-aligned
arm-requires-clause-aligned c =
    let acts = c.requires.some.acts in
    reserve_aligned c.args.action c.args.word
    (reserves_next (parts c.args.self.now) c.args.hart.number c.requires.some.from c.args.action acts
    c.requires.action c.args.word
    (c.requires.arms c.requires.some.from acts))
    (subst IsAligned (sym c.requires.action) (aligned _ _ _ _))

pub unreachable-requires : goal.unreachable-requires
unreachable-requires c =
    let acts = c.requires.some.acts in
    let of =
    reserves_next (parts c.args.self.now) c.args.hart.number c.requires.some.from c.args.action acts
    c.requires.action c.args.word
    (c.requires.arms c.requires.some.from acts) in
    c.in_default.not-LoadReserved _ _ of.is

pub returns : goal.returns
returns c =
    let old = parts c.args.self.now in
    let h = c.args.hart.number in
    let bus = bus_state c.note_armed.new.self in
    let cache = c.mark_read.ensures.cache in
    let noted = c.note_armed.ensures in
    let marks =
    subst (λ line. IsReadMarked (slotted_at bus.copies.caches h) cache line) c.line_of.ensures
    c.mark_read.ensures.marked in
    let kept_is =
    own_read _ old.harts _ h _ (ap (λ p. p.harts) c.mark_read.ensures.new_is) c.from.ensures
    c.requires.some.acts.may.exists c.index_mut.ensures.value in
    let own : OwnState = armed_own c.args.word c.args.old c.in-LoadReserved.rd.number (own_at old.harts h) in
    let new_is =
    set_in old (parts c.mark_read.new.self) (returned bus h cache) h c.from.result c.arm.new.self own
    c.mark_read.ensures.new_is
    c.from.ensures (c.arm.ensures.own ∙ ap (armed_own c.args.word c.args.old c.in-LoadReserved.rd.number) kept_is) in
    record {
      ready =
          subst IsReady (sym (ap (λ p. p.bus) c.mark_read.ensures.new_is))
          (armed_ready old bus c.args.hart c.requires.some.from c.requires.some.acts c.args.word noted cache marks
          (arms_not_plain old h c.requires.some.from c.args.action c.requires.some.acts c.requires.action c.args.word
          (c.requires.arms c.requires.some.from c.requires.some.acts)));
      state = λ from acts.
          let rule = c.requires.arms from acts in
          let of = reserves_next old h from c.args.action acts c.requires.action c.args.word rule in
          subst (λ p. IsInState p (by_plain_rule from h (Arms c.args.word)).state) (sym new_is)
          (armed_in old bus c.args.hart from acts c.args.word noted cache marks c.args.old c.in-LoadReserved.rd
          (same_reserve c.args.action c.args.word c.in-LoadReserved.rd c.in-LoadReserved.address of c.in-LoadReserved.is
          ∙ c.requires.action)
          rule (c.requires.found from acts)
          (reserve_aligned c.args.action c.args.word of (subst IsAligned (sym c.requires.action) (aligned _ _ _ _))));
      outcome = λ from acts. arms_outcome from h c.args.word;
      memory_stays =
          ap (λ p. p.bus.copies.lines) c.mark_read.ensures.new_is
          ∙ ap (λ copies. copies.lines) c.note_armed.ensures.copies_stay;
    }
