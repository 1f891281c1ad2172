use Rattle.lab_run.proofs.Drawing.{GoesDrawn}
use Rattle.lab_run.proofs.drawn.go_drawn.Given as goal

abbrev pub invariant-loop-place : goal.invariant-loop-place
invariant-loop-place l = GoesDrawn l.initial.seed l.initial.machine l.machine l.place
