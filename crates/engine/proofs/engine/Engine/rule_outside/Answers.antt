-- the rule is that of the state in which the hart holds nothing any more
use Rattle.std.proofs.Common.{◌∙◌, ap, refl, sym, subst}
use Rattle.core_step.proofs.Laws.Runs.{aligned}
use Rattle.core_step.specs.Run.{IsAligned}
use Rattle.el_model.specs.Plain.{may_elide}
use Rattle.el_model.specs.State.{hart_of}
use Rattle.engine.proofs.Framed.{own_read}
use Rattle.engine.proofs.PlainRules.{freed_rule}
use Rattle.engine.proofs.StandsOutside.{action_is, elides_is, inside, is_own, lends, on_line}
use Rattle.engine.proofs.engine.Engine.rule_outside.Goals as goal
use Rattle.engine.specs.Acting.{freed}
use Rattle.engine.specs.Parts.{parts}
use Rattle.hart_state.specs.Own.{HasOwn, committed_pc}

pub plain_rule-requires-clause-aligned : goal.plain_rule-requires-clause-aligned
plain_rule-requires-clause-aligned c = subst IsAligned (sym c.requires.action) (aligned _ _ _ _)

pub returns-clause-rule : goal.returns-clause-rule
returns-clause-rule c from acts =
    let now = parts c.args.self.now in
    let h = c.args.hart.number in
    let hart = hart_of (freed from h) h in
    let mode = c.args.self.now.config.mode in
    let same = own_read _ now.harts _ h _ refl c.from.ensures acts.may.exists c.index.ensures in
    sym (freed_rule from h (inside now h from acts))
    ∙ sym (c.plain_rule.ensures.rule (freed from h) acts.may.is_in.shows acts.may.is_in.told (on_line now h from acts)
    (c.requires.action ∙ action_is now h from acts)
    (elides_is now h from acts mode c.may_elide-may_elide.result (ap (λ config. config.mode) acts.may.is_in.config)
    (c.may_elide-may_elide.ensures.hart hart (subst (λ own. HasOwn own hart) (sym same) (is_own now h from acts).part)
    ∙ ap (λ own. may_elide mode hart (committed_pc own)) same)))

pub returns-clause-old : goal.returns-clause-old
returns-clause-old c from acts =
    let now = parts c.args.self.now in
    let h = c.args.hart.number in
    c.plain_rule.ensures.old (freed from h) acts.may.is_in.shows acts.may.is_in.told (on_line now h from acts)
    (c.requires.action ∙ action_is now h from acts)

pub plain_rule-requires-clause-lent : goal.plain_rule-requires-clause-lent
plain_rule-requires-clause-lent c =
    lends (parts c.args.self.now) c.args.hart.number c.requires.some.from c.requires.some.acts
