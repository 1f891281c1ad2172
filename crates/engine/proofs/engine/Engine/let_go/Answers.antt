-- an armed section is let go: the bus is ready again, and the parts are in the state after it
use Rattle.std.proofs.Common.{◌∙◌, ap, refl, subst, sym}
use Rattle.std.specs.Prelude.{slice_set}
use Rattle.el_model.specs.Armed.{armed_turn}
use Rattle.engine.proofs.Framed.{IsClearedThere, cleared_there, own_read}
use Rattle.engine.proofs.ArmedRules.{lets_go_outcome}
use Rattle.engine.proofs.ArmedSteps.{let_go_in, unmarked_ready}
use Rattle.engine.proofs.engine.Engine.let_go.Goals as goal
use Rattle.engine.specs.Parts.{IsInState, parts}
use Rattle.hart_state.specs.Deeds.{let_go_own}
use Rattle.section_ctl.specs.State.{armed_of}
use Rattle.snoop.specs.Shows.{bus_state}

pub note_armed-requires-clause-ready : goal.note_armed-requires-clause-ready
note_armed-requires-clause-ready c =
    unmarked_ready (parts c.args.self.now) c.args.hart (armed_of c.args.armed) c.requires.follows.from
    c.requires.follows.follows c.clear_bits.new.self
    (subst (λ sets. IsClearedThere sets c.clear_bits.new.self) c.sets_mut.ensures.value
    (cleared_there c.sets_mut.result.now c.clear_bits.new.self c.clear_bits.ensures.cleared c.clear_bits.ensures.lent
    c.clear_bits.ensures.owner))

pub returns : goal.returns
returns c =
    let old = parts c.args.self.now in
    let h = c.args.hart.number in
    let armed = armed_of c.args.armed in
    let bus = bus_state c.note_armed.new.self in
    let clears = subst (λ sets. IsClearedThere sets c.clear_bits.new.self) c.sets_mut.ensures.value
    (cleared_there c.sets_mut.result.now c.clear_bits.new.self c.clear_bits.ensures.cleared c.clear_bits.ensures.lent
    c.clear_bits.ensures.owner) in
    let kept_is =
    own_read _ old.harts _ h _ refl c.from.ensures c.requires.follows.follows.acts.may.exists
    c.index_mut.ensures.value in
    let harts = ap (λ i. slice_set old.harts i c.let_go.new.self) c.from.ensures
    ∙ ap (slice_set old.harts h) (c.let_go.ensures.own ∙ ap let_go_own kept_is) in
    record {
      ready = c.note_armed.ensures.ready;
      state = λ from follows.
          subst (λ list. IsInState (record old { bus = bus; harts = list }) (armed_turn from h armed).state) (sym harts)
          (let_go_in old c.args.hart armed from follows c.clear_bits.new.self clears bus c.note_armed.ensures);
      outcome = λ from follows. lets_go_outcome from h armed follows.rule_is;
      memory_stays = ap (λ copies. copies.lines) c.note_armed.ensures.copies_stay;
    }
