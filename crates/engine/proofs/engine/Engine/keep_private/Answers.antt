-- one more instruction is kept private: it may be, and the parts are in the state after it
use Rattle.std.proofs.Common.{◌∙◌, ap, arith, subst, sym}
use Rattle.el_model.specs.Armed.{armed_turn}
use Rattle.engine.proofs.ArmedRules.{continues_at, continues_outcome}
use Rattle.engine.proofs.ArmedSteps.{continued_in, continued_ready}
use Rattle.engine.proofs.PrivateCalls.{may_run}
use Rattle.engine.proofs.engine.Engine.keep_private.Goals as goal
use Rattle.engine.specs.Parts.{IsInState, parts}
use Rattle.section_ctl.specs.State.{armed_of}
use Rattle.snoop.specs.Leaving.{LeavesNoted}
use Rattle.snoop.specs.Returned.{returned}
use Rattle.snoop.specs.Shows.{IsReady, bus_state}

pub run_privately-requires : goal.run_privately-requires
run_privately-requires c =
    record {
      may =
          may_run (parts c.args.self.now) c.args.hart.number (armed_of c.args.armed) c.requires.follows.from
          c.requires.follows.follows
          c.args.action c.requires.action;
    }

pub one_more-requires : goal.one_more-requires
one_more-requires c =
    (continues_at c.requires.follows.from c.args.hart.number (armed_of c.args.armed)
    c.requires.follows.follows.rule_is).fits

pub note_armed-requires-clause-few : goal.note_armed-requires-clause-few
note_armed-requires-clause-few c =
    let fits =
    (continues_at c.requires.follows.from c.args.hart.number (armed_of c.args.armed)
    c.requires.follows.follows.rule_is).fits in
    omega (arith, c.one_more.ensures, fits)

pub note_armed-requires-clause-ready : goal.note_armed-requires-clause-ready
note_armed-requires-clause-ready c =
    let ran = c.run_privately.ensures in
    subst (λ p. IsReady p.bus) (sym ran.new_is)
    (continued_ready (parts c.args.self.now) c.args.hart (armed_of c.args.armed) c.requires.follows.from
    c.requires.follows.follows c.args.action
    c.requires.action ran.pool ran.cache ran.section ran.over)

pub returns : goal.returns
returns c =
    let old = parts c.args.self.now in
    let h = c.args.hart.number in
    let armed = armed_of c.args.armed in
    let bus = bus_state c.note_armed.new.self in
    let ran = c.run_privately.ensures in
    let noted =
    subst (λ n. LeavesNoted h n (returned old.bus h ran.cache) bus) c.one_more.ensures
    (subst (λ b. LeavesNoted h c.one_more.result b bus) (ap (λ p. p.bus) ran.new_is) c.note_armed.ensures) in
    record {
      ready = c.note_armed.ensures.ready;
      state = λ from follows.
          subst (λ p. IsInState (record p { bus = bus }) (armed_turn from h armed).state) (sym ran.new_is)
          (continued_in old c.args.hart armed from follows c.args.action c.requires.action ran.pool ran.cache
          ran.section ran.over bus noted);
      outcome = λ from follows. continues_outcome from h armed follows.rule_is;
      memory_stays =
          ap (λ copies. copies.lines) c.note_armed.ensures.copies_stay ∙ ap (λ p. p.bus.copies.lines) ran.new_is;
    }
