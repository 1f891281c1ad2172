-- whether an exchange is by an SC
use Rattle.std.proofs.Common.{◌∙◌}
use Rattle.rv_flat.specs.Memory.{byte_in}
use Rattle.step_rules.proofs.Laws.NextAction.{exchanges_by_sc}
use Rattle.step_rules.proofs.upcoming.is_conditional.Goals as goal

pub returns : goal.returns
returns c = λ flat h next some.
    c.is_some.ensures
    ∙ exchanges_by_sc c.args.action.now flat h c.conditionals.result next
    (c.conditionals.ensures.exact (byte_in flat.base flat.bytes)) some
