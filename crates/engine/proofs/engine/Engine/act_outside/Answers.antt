-- a quiet action is one, and each rule's deed is the turn
use Rattle.std.proofs.Common.{◌∙◌, ap, sym, subst}
use Rattle.engine.proofs.Chosen.{missed_line, next, runs_own}
use Rattle.engine.proofs.Outsiders.{by_rule, missed_turn}
use Rattle.engine.proofs.StandsOutside.{has_room_for, line_there}
use Rattle.engine.proofs.TakenTurns.{as_well}
use Rattle.engine.proofs.engine.Engine.act_outside.Goals as goal
use Rattle.engine.specs.Parts.{parts}
use Rattle.step_rules.proofs.Laws.NextAction.{next_quiet}
use Rattle.step_rules.specs.Rules.{TellsOld, definition_plain}

pub run_quiet-requires-clause-quiet : goal.run_quiet-requires-clause-quiet
run_quiet-requires-clause-quiet c =
    let from = c.requires.some.from in
    let acts = c.requires.some.acts in
    let coming = next (parts c.args.self.now) c.args.hart.number from c.args.action acts c.requires.action in
    next_quiet c.args.action from.committed c.args.hart.number coming
    ∙ sym (c.is_quiet.ensures from.committed c.args.hart.number coming)
    ∙ c.if-is_quiet.true

pub run_next-requires-clause-runs : goal.run_next-requires-clause-runs
run_next-requires-clause-runs c from acts =
    runs_own (parts c.args.self.now) c.args.hart.number from c.args.action acts c.requires.action _
    (c.rule_outside.ensures.rule from acts ∙ ap definition_plain c.in-Runs.is)

pub returns-in-Runs : goal.returns-in-Runs
returns-in-Runs c =
    by_rule (parts c.args.self.now) (parts c.run_next.new.self) c.args.hart.number _ _
    (λ from acts. runs_own (parts c.args.self.now) c.args.hart.number from c.args.action acts c.requires.action _
    (c.rule_outside.ensures.rule from acts ∙ ap definition_plain c.in-Runs.is)) c.run_next.ensures

pub miss-requires : goal.miss-requires
miss-requires c =
    let old = parts c.args.self.now in
    let h = c.args.hart.number in
    let from = c.requires.some.from in
    let acts = c.requires.some.acts in
    record {
      may = record {
        from = from;
        may = acts.may;
        free = c.requires.no_request;
        in_memory =
            line_there old h from acts c.args.action c.in-Misses.line.number c.requires.in_place
            (missed_line old h from c.args.action acts c.requires.action c.in-Misses.line.number c.in-Misses.need
            (c.rule_outside.ensures.rule from acts ∙ ap definition_plain c.in-Misses.is));
        room = has_room_for old h from acts c.in-Misses.line.number;
      };
    }

pub returns-in-Misses : goal.returns-in-Misses
returns-in-Misses c =
    as_well c.miss.ensures (λ from acts. acts.may)
    (λ from acts. missed_turn from c.args.hart.number _ _
    (c.rule_outside.ensures.rule from acts ∙ ap definition_plain c.in-Misses.is))

pub returns-in-Begins : goal.returns-in-Begins
returns-in-Begins c =
    by_rule (parts c.args.self.now) (parts c.begin_section.new.self) c.args.hart.number _ _
    (λ from acts. c.rule_outside.ensures.rule from acts ∙ ap definition_plain c.in-Begins.is) c.begin_section.ensures

pub arm-requires-clause-found : goal.arm-requires-clause-found
arm-requires-clause-found c from acts =
    subst (λ rule. TellsOld rule from.committed) c.in-Arms.is (c.rule_outside.ensures.old from acts)

pub arm-requires-clause-arms : goal.arm-requires-clause-arms
arm-requires-clause-arms c from acts = c.rule_outside.ensures.rule from acts ∙ ap definition_plain c.in-Arms.is

pub returns-in-Arms : goal.returns-in-Arms
returns-in-Arms c =
    by_rule (parts c.args.self.now) (parts c.arm.new.self) c.args.hart.number _ _
    (λ from acts. c.rule_outside.ensures.rule from acts ∙ ap definition_plain c.in-Arms.is) c.arm.ensures
