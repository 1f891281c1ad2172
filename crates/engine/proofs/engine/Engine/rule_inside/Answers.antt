-- the rule is that of the state in which the hart has given up what it held, which is that of the state before
use Rattle.std.proofs.Common.{◌∙◌, ap, subst, sym}
use Rattle.std.specs.Option.{unwrap_or}
use Rattle.el_model.specs.InSection.{section_rule, shown_in}
use Rattle.engine.proofs.InsideRules.{freed_rule}
use Rattle.engine.proofs.KeptLive.{keeps_live, next_inside}
use Rattle.engine.proofs.engine.Engine.rule_inside.Goals as goal
use Rattle.engine.specs.Acting.{freed}
use Rattle.engine.specs.Parts.{parts}
use Rattle.section_ctl.specs.State.{section_of}
use Rattle.step_rules.specs.Actions.{IsNext}

pub returns : goal.returns
returns c from section inside =
    let old = parts c.args.self.now in
    let h = c.args.hart.number in
    let live = c.args.live in
    let is = ap (λ found. unwrap_or found section) (c.requires.live ∙ (keeps_live old h from section inside).live) in
    let next = subst (λ s. IsNext c.args.action.now (shown_in from h s) h) (sym is)
    (next_inside old h from section c.args.action.now inside c.requires.action) in
    sym
    (c.section_rule.ensures (freed from h) live.new inside.may.is_in.shows (sym inside.may.is_in.config) next
    ∙ freed_rule from h (section_of live)
    ∙ ap (section_rule from h) is)
