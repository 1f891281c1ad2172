-- the acquire of an armed section is elided: the action is a store conditional, and the parts are in the state after it
use Rattle.std.proofs.Common.{◌≡◌, ◌∙◌, ap, subst, sym, true}
use Rattle.residency.specs.Cache.{is_resident}
use Rattle.el_model.specs.Armed.{armed_turn}
use Rattle.engine.proofs.ArmedRules.{elides_outcome}
use Rattle.engine.proofs.Eliding.{agent_there, conditional_there, elided_in, marked_for, marked_ready, waits_not}
use Rattle.engine.proofs.Framed.{own_read}
use Rattle.engine.proofs.KeptPrivate.{keeps_private, word_line_there}
use Rattle.engine.proofs.PrivateCalls.{armed_some, of_armed}
use Rattle.engine.proofs.Stepped.{put_in}
use Rattle.engine.proofs.engine.Engine.elide.Goals as goal
use Rattle.engine.specs.Acting.{sets_in}
use Rattle.engine.specs.Beginning.{IsReadMarked}
use Rattle.engine.specs.Parts.{IsInState, own_at, parts}
use Rattle.hart_state.specs.Deeds.{elided_own}
use Rattle.section_ctl.specs.State.{Reserved, armed_of}
use Rattle.snoop.specs.Leaving.{LeavesNoted}
use Rattle.snoop.specs.Returned.{returned}
use Rattle.snoop.specs.Shows.{IsReady, bus_state}
use Rattle.step_rules.specs.Actions.{numbered_swap}

pub mark_read-requires-clause-resident : goal.mark_read-requires-clause-resident
mark_read-requires-clause-resident c =
    subst (λ line. is_resident (sets_in (parts c.args.self.now) c.args.hart.number).residency line ≡ true)
    (sym c.line_of.ensures)
    (word_line_there (parts c.args.self.now) c.args.hart.number c.requires.follows.from (armed_of c.args.armed)
    c.requires.follows.follows.acts)

pub note_armed-requires-clause-ready : goal.note_armed-requires-clause-ready
note_armed-requires-clause-ready c =
    let old = parts c.args.self.now in
    let h = c.args.hart.number in
    let cache = c.mark_read.ensures.cache in
    subst IsReady (sym (ap (λ p. p.bus) c.mark_read.ensures.new_is))
    (marked_ready old c.args.hart (armed_of c.args.armed) (numbered_swap c.args.swap) c.requires.follows.from
    c.requires.follows.follows cache
    (marked_for old c.args.hart (armed_of c.args.armed) (numbered_swap c.args.swap) c.requires.follows.from
    c.requires.follows.follows cache
    (subst (λ line. IsReadMarked (sets_in old h) cache line) c.line_of.ensures c.mark_read.ensures.marked)))

pub begin_armed-requires : goal.begin_armed-requires
begin_armed-requires c =
    let old = parts c.args.self.now in
    let h = c.args.hart.number in
    let mid = parts c.mark_read.new.self in
    let own_is =
    own_read _ old.harts _ h _ (ap (λ p. p.harts) c.mark_read.ensures.new_is) c.from.ensures
    c.requires.follows.follows.acts.may.exists c.index_mut.ensures.value in
    armed_some old h (armed_of c.args.armed) c.requires.follows.from c.requires.follows.follows.acts
    c.index_mut.result.now own_is

pub open_attempt-requires-clause-hart_exists : goal.open_attempt-requires-clause-hart_exists
open_attempt-requires-clause-hart_exists c =
    let old = parts c.args.self.now in
    let h = c.args.hart.number in
    let cache = c.mark_read.ensures.cache in
    agent_there old c.args.hart (armed_of c.args.armed) (numbered_swap c.args.swap) c.requires.follows.from
    c.requires.follows.follows cache
    (marked_for old c.args.hart (armed_of c.args.armed) (numbered_swap c.args.swap) c.requires.follows.from
    c.requires.follows.follows cache
    (subst (λ line. IsReadMarked (sets_in old h) cache line) c.line_of.ensures c.mark_read.ensures.marked))
    (bus_state c.note_armed.new.self)
    (subst (λ bus. LeavesNoted h 0 bus (bus_state c.note_armed.new.self)) (ap (λ p. p.bus) c.mark_read.ensures.new_is)
    c.note_armed.ensures)

pub open_attempt-requires-clause-no_request : goal.open_attempt-requires-clause-no_request
open_attempt-requires-clause-no_request c =
    let old = parts c.args.self.now in
    let h = c.args.hart.number in
    let cache = c.mark_read.ensures.cache in
    waits_not old c.args.hart (armed_of c.args.armed) (numbered_swap c.args.swap) c.requires.follows.from
    c.requires.follows.follows cache
    (marked_for old c.args.hart (armed_of c.args.armed) (numbered_swap c.args.swap) c.requires.follows.from
    c.requires.follows.follows cache
    (subst (λ line. IsReadMarked (sets_in old h) cache line) c.line_of.ensures c.mark_read.ensures.marked))
    (bus_state c.note_armed.new.self)
    (subst (λ bus. LeavesNoted h 0 bus (bus_state c.note_armed.new.self)) (ap (λ p. p.bus) c.mark_read.ensures.new_is)
    c.note_armed.ensures)

pub unreachable-requires : goal.unreachable-requires
unreachable-requires c =
    let of =
    conditional_there (parts c.args.self.now) c.args.hart (armed_of c.args.armed) (numbered_swap c.args.swap)
    c.requires.follows.from
    c.requires.follows.follows c.args.action c.requires.action in
    c.in_default.not-StoreConditional _ _ _ of.is

pub returns : goal.returns
returns c =
    let old = parts c.args.self.now in
    let h = c.args.hart.number in
    let armed = armed_of c.args.armed in
    let swap = numbered_swap c.args.swap in
    let mid = parts c.mark_read.new.self in
    let cache = c.mark_read.ensures.cache in
    let bus = bus_state c.open_attempt.new.self in
    let marks = marked_for old c.args.hart armed swap c.requires.follows.from c.requires.follows.follows cache
    (subst (λ line. IsReadMarked (sets_in old h) cache line) c.line_of.ensures c.mark_read.ensures.marked) in
    let noted =
    subst (λ b. LeavesNoted h 0 b (bus_state c.note_armed.new.self)) (ap (λ p. p.bus) c.mark_read.ensures.new_is)
    c.note_armed.ensures in
    let own_is =
    own_read _ old.harts _ h _ (ap (λ p. p.harts) c.mark_read.ensures.new_is) c.from.ensures
    c.requires.follows.follows.acts.may.exists c.index_mut.ensures.value in
    record {
      ready = c.open_attempt.ensures.ready;
      state = λ from follows.
          let k = keeps_private old h from armed follows.acts in
          let reserved : Reserved = record { armed = armed; old = k.old } in
          let began = of_armed old h armed from follows.acts c.index_mut.result.now own_is
          (λ r. c.begin_armed.new.self ≡ elided_own r c.args.swap.new c.in-StoreConditional.rd.number
          c.index_mut.result.now)
          c.begin_armed.ensures.own reserved k.is in
          let new_is = put_in old mid (returned old.bus h cache) bus h c.from.result c.begin_armed.new.self
          (elided_own reserved c.args.swap.new c.in-StoreConditional.rd.number (own_at old.harts h))
          c.mark_read.ensures.new_is c.from.ensures
          (began ∙ ap (elided_own reserved c.args.swap.new c.in-StoreConditional.rd.number) own_is) in
          subst (λ p. IsInState p (armed_turn from h armed).state) (sym new_is)
          (elided_in old c.args.hart armed swap from follows cache marks (bus_state c.note_armed.new.self) noted bus
          c.open_attempt.ensures.copies_stay
          c.open_attempt.ensures.shows
          c.in-StoreConditional.rd c.in-StoreConditional.address c.in-StoreConditional.value
          (sym c.in-StoreConditional.is ∙ c.requires.action) reserved k.is);
      outcome = λ from follows. elides_outcome from h armed swap follows.rule_is;
      memory_stays =
          ap (λ copies. copies.lines) (c.open_attempt.ensures.copies_stay ∙ c.note_armed.ensures.copies_stay)
          ∙ ap (λ p. p.bus.copies.lines) c.mark_read.ensures.new_is;
    }
