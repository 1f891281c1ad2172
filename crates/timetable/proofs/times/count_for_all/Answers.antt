use Rattle.timetable.proofs.Rows.{one_more_counted}
use Rattle.timetable.proofs.times.count_for_all.Goals as goal

pub loop-number-preserved : goal.loop-number-preserved
loop-number-preserved c =
    one_more_counted c.args.entry c.args.rows.now c.loop-number.rows c.loop-number.number _ c.loop-number-test.true
    c.loop-number.invariant c.count.ensures
