-- a hart waits where it has asked
use Rattle.std.proofs.Common.{◌∙◌, ap}
use Rattle.el_model.specs.State.{ordered_of, raised_of}
use Rattle.engine.proofs.Steps.{asking_is, is_asking}
use Rattle.engine.proofs.engine.Engine.waits.Goals as goal

pub returns-in-Nothing : goal.returns-in-Nothing
returns-in-Nothing c state shows =
    ap is_asking (c.in-Nothing.ensures.shown state shows)
    ∙ asking_is (raised_of state c.args.hart.number) (ordered_of state c.args.hart.number)

pub returns-in-Raised : goal.returns-in-Raised
returns-in-Raised c state shows =
    ap is_asking (c.in-Raised.ensures.shown state shows)
    ∙ asking_is (raised_of state c.args.hart.number) (ordered_of state c.args.hart.number)
