use Rattle.std.proofs.Common.{ℕ, ◌+◌, ◌-◌, List, ap, ◌∙◌, arith}
use Rattle.trace_file.specs.Faults.{entries_fault}
use Rattle.trace_file.proofs.Walk.{goes_on}
use Rattle.trace_file.proofs.entries.check_entries.Goals as goal

pub loop-preserved : goal.loop-preserved
loop-preserved c =
    let harts = c.args.harts in
    let k = c.loop.counter in
    let width = c.in_ok-width.width in
    record {
      same =
          ap (λ (l : List ℕ). entries_fault harts (c.args.count - (k + 1)) (c.loop.place + width) l)
          c.behind-rest.ensures
          ∙ goes_on harts c.args.count k c.loop.place width c.loop.rest.now _ (omega (arith, c.loop-test.true))
          c.loop.invariant.same
          c.in_ok-width.ensures.width.0
          c.in_ok-width.ensures.accepted;
      near = omega (arith, c.loop.invariant.near, c.in_ok-width.ensures.width.1);
    }
