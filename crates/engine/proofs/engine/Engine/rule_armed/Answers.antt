-- the rule is that of the state in which the hart holds nothing any more, which is that of the state before
use Rattle.std.proofs.Common.{◌∙◌, ap, sym}
use Rattle.engine.proofs.KeptPrivate.{next_private, word_shown}
use Rattle.engine.proofs.engine.Engine.rule_armed.Goals as goal
use Rattle.engine.specs.Acting.{freed}
use Rattle.engine.specs.Parts.{parts}
use Rattle.section_ctl.specs.State.{armed_of}

pub returns : goal.returns
returns c from acts =
    let old = parts c.args.self.now in
    let h = c.args.hart.number in
    let armed = armed_of c.args.armed in
    sym
    (c.armed_rule.ensures (freed from h) acts.may.is_in.shows (sym (ap (λ config. config.long) acts.may.is_in.config))
    (next_private old h from armed c.args.action.now acts c.requires.action)
    (c.word_of.ensures from acts ∙ word_shown old h from armed acts))
