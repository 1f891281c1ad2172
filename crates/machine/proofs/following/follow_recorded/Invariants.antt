use Rattle.machine.proofs.Compared.{Compares}
use Rattle.machine.proofs.following.follow_recorded.Given as goal

abbrev pub invariant-loop-place : goal.invariant-loop-place
invariant-loop-place l = Compares l.initial.machine l.machine l.events l.recorded l.place l.first
