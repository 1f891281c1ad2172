use Rattle.run_check.proofs.Walk.{Walked}
use Rattle.run_check.proofs.checking.first_line.Given as goal

abbrev pub invariant-loop-patch : goal.invariant-loop-patch
invariant-loop-patch l = Walked l.image l.lines l.flat.bytes l.patch-index l.next
