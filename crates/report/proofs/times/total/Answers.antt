use Rattle.std.proofs.Common.{arith}
use Rattle.std.proofs.lemmas.List.FromFn.{sum_by-map-range_with_len_more}
use Rattle.timetable.specs.Rows.{units_in}
use Rattle.report.proofs.times.total.Goals as goal

pub loop-number-preserved : goal.loop-number-preserved
loop-number-preserved c = record {
  so_far =
      let number = c.loop-number.number in
      omega (
        arith,
        c.loop-number.invariant.so_far,
        c.units-total.ensures.exact,
        sum_by-map-range_with_len_more (λ n. n) (units_in c.args.times.now) 0 number number (omega arith),
      );
  small = omega (arith, c.loop-number.invariant.small, c.units-total.ensures.small);
}
