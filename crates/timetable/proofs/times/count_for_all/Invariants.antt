use Rattle.timetable.proofs.Rows.{CountedBelow}
use Rattle.timetable.proofs.times.count_for_all.Given as goal

abbrev pub invariant-loop-number : goal.invariant-loop-number
invariant-loop-number l = CountedBelow l.entry l.initial.rows l.rows l.number
