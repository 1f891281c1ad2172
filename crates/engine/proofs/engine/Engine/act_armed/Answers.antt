-- each rule's deed is the turn
use Rattle.std.proofs.Common.{◌∙◌, ap}
use Rattle.engine.proofs.ArmedRules.{by_rule, follows_somewhere}
use Rattle.engine.proofs.engine.Engine.act_armed.Goals as goal
use Rattle.engine.specs.Parts.{parts}
use Rattle.step_rules.specs.Rules.{definition_armed}

pub elide-requires-clause-follows : goal.elide-requires-clause-follows
elide-requires-clause-follows c =
    follows_somewhere (parts c.args.self.now) c.args.hart.number _ _ c.requires.some
    (λ from acts. c.rule_armed.ensures from acts ∙ ap definition_armed c.in-Elides.is)

pub returns-in-Elides : goal.returns-in-Elides
returns-in-Elides c =
    by_rule (parts c.args.self.now) (parts c.elide.new.self) c.args.hart.number _ _ _ _
    (λ from acts. c.rule_armed.ensures from acts ∙ ap definition_armed c.in-Elides.is) c.elide.ensures

pub keep_private-requires-clause-follows : goal.keep_private-requires-clause-follows
keep_private-requires-clause-follows c =
    follows_somewhere (parts c.args.self.now) c.args.hart.number _ _ c.requires.some
    (λ from acts. c.rule_armed.ensures from acts ∙ ap definition_armed c.in-Continues.is)

pub returns-in-Continues : goal.returns-in-Continues
returns-in-Continues c =
    by_rule (parts c.args.self.now) (parts c.keep_private.new.self) c.args.hart.number _ _ _ _
    (λ from acts. c.rule_armed.ensures from acts ∙ ap definition_armed c.in-Continues.is) c.keep_private.ensures

pub let_go-requires : goal.let_go-requires
let_go-requires c =
    record {
      follows =
          follows_somewhere (parts c.args.self.now) c.args.hart.number _ _ c.requires.some
          (λ from acts. c.rule_armed.ensures from acts ∙ ap definition_armed c.in-LetsGo.is);
    }

pub returns-in-LetsGo : goal.returns-in-LetsGo
returns-in-LetsGo c =
    by_rule (parts c.args.self.now) (parts c.let_go.new.self) c.args.hart.number _ _ _ _
    (λ from acts. c.rule_armed.ensures from acts ∙ ap definition_armed c.in-LetsGo.is) c.let_go.ensures
