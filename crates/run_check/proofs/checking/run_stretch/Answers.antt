use Rattle.run_check.proofs.Runs.{same_harts, step_more}
use Rattle.run_check.proofs.checking.run_stretch.Goals as goal

pub loop-step-preserved : goal.loop-step-preserved
loop-step-preserved c =
    let hart = c.args.stretch.hart.number in
    record {
      ran =
          step_more c.args.flat.now c.loop-step.flat c.step.new.self hart c.loop-step._step c.loop-step.invariant.ran
          c.step.ensures;
      harts = same_harts c.loop-step.flat c.step.new.self hart _ c.step.ensures c.loop-step.invariant.harts;
    }
