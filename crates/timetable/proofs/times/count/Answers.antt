use Rattle.std.proofs.Common.{refl, arith}
use Rattle.timetable.proofs.Rows.{own_counted}
use Rattle.timetable.proofs.times.count.Goals as goal

pub returns-then-is_of_its_hart_alone : goal.returns-then-is_of_its_hart_alone
returns-then-is_of_its_hart_alone c =
    own_counted c.args.entry c.args.rows.now _ (omega (arith, c.args.entry.event.hart.small))
    (λ h small. (c.requires h small).places) (c.if-is_of_its_hart_alone.ensures.nobody_lost refl)
    (c.if-is_of_its_hart_alone.ensures.nobody_freed refl) c.count.ensures
