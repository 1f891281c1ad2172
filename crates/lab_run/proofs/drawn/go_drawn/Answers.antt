use Rattle.std.proofs.Common.{sym, ◌∙◌}
use Rattle.lab_run.proofs.Drawing.{all_stopped, one_left}
use Rattle.lab_run.proofs.drawn.go_drawn.Goals as goal

pub step-requires-clause-step_left : goal.step-requires-clause-step_left
step-requires-clause-step_left c =
    one_left c.args.seed c.args.machine.now c.loop-place.machine c.loop-place.place c.args.steps c.loop-place.invariant
    c.requires.steps_are c.loop-place-test.true

pub returns-then-over : goal.returns-then-over
returns-then-over c =
    all_stopped c.args.seed c.args.machine.now c.loop-place.machine c.loop-place.place c.args.steps
    c.loop-place.invariant
    c.requires.steps_are c.loop-place-test.true (sym c.over.ensures ∙ c.if-over.true)
