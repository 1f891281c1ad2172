-- a step is progress where its hart runs and waits for nothing
use Rattle.std.proofs.Common.{◌∙◌, sym}
use Rattle.machine.proofs.Readiness.{step_goes, step_rests}
use Rattle.machine.proofs.machine.Machine.steps.Goals as goal
use Rattle.machine.specs.Story.{state_of}
use Rattle.el_base.proofs.Laws.Cases.{true_false}

pub returns-then-runs : goal.returns-then-runs
returns-then-runs c =
    step_goes (state_of c.args.self.now) c.args.hart _ (c.runs.ensures.0 c.if-runs.true) c.waits.ensures

pub returns-else-runs : goal.returns-else-runs
returns-else-runs c =
    step_rests (state_of c.args.self.now) c.args.hart
    (λ running. true_false (sym (c.runs.ensures.1 running) ∙ c.if-runs.false))
