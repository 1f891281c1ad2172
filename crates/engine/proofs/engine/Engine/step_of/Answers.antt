-- a hart that has stopped has nothing to do
use Rattle.std.proofs.Common.{◌∙◌, sym}
use Rattle.el_base.proofs.Laws.Cases.{true_false}
use Rattle.engine.proofs.Steps.{keeps_still, status_is, stopped_turn}
use Rattle.engine.proofs.engine.Engine.step_of.Goals as goal
use Rattle.engine.specs.Parts.{parts}

pub returns-else-runs : goal.returns-else-runs
returns-else-runs c =
    keeps_still (parts c.args.self.now) _ _ c.requires.stands.ready
    (λ state is. stopped_turn state c.args.hart.number
    (λ running. true_false (sym (c.runs.ensures.1
    (sym (status_is (parts c.args.self.now) state c.args.hart.number c.requires.hart_exists is) ∙ running))
    ∙ c.if-runs.false)))
