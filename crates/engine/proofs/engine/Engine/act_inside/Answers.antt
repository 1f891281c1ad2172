-- each rule has its deed, and a section's turn is what its rule says
use Rattle.std.proofs.Common.{◌∙◌, ap}
use Rattle.engine.proofs.InsideMisses.{may_miss, misses_turn}
use Rattle.engine.proofs.InsideRules.{by_rule}
use Rattle.engine.proofs.TakenTurns.{as_well}
use Rattle.engine.proofs.engine.Engine.act_inside.Goals as goal
use Rattle.engine.specs.Parts.{parts}
use Rattle.step_rules.specs.Rules.{definition_in_section}

pub miss-requires : goal.miss-requires
miss-requires c =
    let some = c.requires.some in
    record {
      may =
          may_miss (parts c.args.self.now) c.args.hart.number some.from some.section c.in-Misses.line.number
          c.in-Misses.need c.args.action
          (record {
            inside = some.inside;
            rule_is =
                c.rule_inside.ensures some.from some.section some.inside ∙ ap definition_in_section c.in-Misses.is;
          })
          some.free c.requires.action c.requires.in_place;
    }

pub returns-in-RollsBack : goal.returns-in-RollsBack
returns-in-RollsBack c section =
    by_rule (parts c.args.self.now) (parts c.roll_back.new.self) c.args.hart.number section _ _
    (λ from inside. c.rule_inside.ensures from section inside ∙ ap definition_in_section c.in-RollsBack.is)
    (c.roll_back.ensures section)

pub returns-in-Commits : goal.returns-in-Commits
returns-in-Commits c section =
    by_rule (parts c.args.self.now) (parts c.commit.new.self) c.args.hart.number section _ _
    (λ from inside. c.rule_inside.ensures from section inside ∙ ap definition_in_section c.in-Commits.is)
    (c.commit.ensures section)

pub returns-in-Buffers : goal.returns-in-Buffers
returns-in-Buffers c section =
    by_rule (parts c.args.self.now) (parts c.buffer.new.self) c.args.hart.number section _ _
    (λ from inside. c.rule_inside.ensures from section inside ∙ ap definition_in_section c.in-Buffers.is)
    (c.buffer.ensures section)

pub returns-in-Misses : goal.returns-in-Misses
returns-in-Misses c section =
    as_well c.miss.ensures (λ from inside. inside.may)
    (λ from inside. misses_turn from c.args.hart.number section _ _
    (c.rule_inside.ensures from section inside ∙ ap definition_in_section c.in-Misses.is))
