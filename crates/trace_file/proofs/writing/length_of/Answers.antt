use Rattle.std.proofs.Common.{length, ap, arith}
use Rattle.trace_file.proofs.EntryBytes.{longer, none_between}
use Rattle.trace_file.proofs.writing.length_of.Goals as goal

pub loop-place-init : goal.loop-place-init
loop-place-init c =
    let none = ap length (none_between c.args.from c.args.history.now.entries (omega arith)) in
    record { total = omega (arith, none); small = omega arith }

pub loop-place-preserved : goal.loop-place-preserved
loop-place-preserved c =
    record {
      total = longer c.args.from c.loop-place.place c.args.history.now.entries c.entry-entry.result
          c.loop-place.total _ c.entry-entry.ensures (omega arith) c.loop-place.invariant.total
          (omega (arith, c.width_of.ensures.exact));
      small = omega (arith, c.loop-place.invariant.small, c.width_of.ensures.small);
    }
