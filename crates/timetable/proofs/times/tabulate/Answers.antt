use Rattle.std.proofs.Common.{subst, sym, ◌∙◌, arith, refl}
use Rattle.timetable.specs.Rows.{row_at}
use Rattle.timetable.proofs.Standing.{RowSays, first_rows, stands_at_first, stands_more, table_stands}
use Rattle.timetable.proofs.times.tabulate.Goals as goal

pub loop-place-init : goal.loop-place-init
loop-place-init g c = record {
  rows = refl;
  so_far = λ h small. subst (λ row. RowSays h (g.C.Chronicled.entries c.args.history.now) 0 row)
      (sym (first_rows c.nothing-rows.result h small ∙ c.nothing-rows.ensures h))
      (stands_at_first h (g.C.Chronicled.entries c.args.history.now));
}

pub loop-place-preserved : goal.loop-place-preserved
loop-place-preserved g c = record {
  rows = c.count.array_long;
  so_far = λ h small. stands_more h (g.C.Chronicled.entries c.args.history.now) c.loop-place.place c.entry.result
      (row_at c.loop-place.rows h) (row_at c.count.new.rows h) c.entry.ensures (c.loop-place.invariant.so_far h small)
      (c.count.ensures h small);
}

pub returns : goal.returns
returns g c =
    table_stands (g.C.Chronicled.entries c.args.history.now) c.loop-place.rows c.loop-place.place
    (omega (arith, c.loop-place-test.false, c.loop-place.auto.place-end, c.length-place-end.ensures))
    c.loop-place.invariant.rows c.loop-place.invariant.so_far
