-- the lines of more and more facts
use Rattle.std.proofs.Common.{arith, refl}
use Rattle.lab.proofs.Lining.{line_in_order, line_passed, line_put, lines_in_order, no_line, no_line_yet, order_stays}
use Rattle.lab.proofs.line_rows.lines_of.Goals as goal
use Rattle.lab.proofs.line_rows.lines_of.Goals.{in-Some+in_ok-put_line, in_default}

pub loop-fact-init : goal.loop-fact-init
loop-fact-init c = record {
  so_far = rw (c.new-lines.ensures.items) no_line_yet;
  order = rw (c.new-lines.ensures.items) refl;
  seen = λ number. rw (c.new-lines.ensures.items, c.new-seen.ensures.empty) refl;
}

pub loop-fact-preserved : goal.loop-fact-preserved
loop-fact-preserved c =
    elim c.match-fact.branch [
      | in-Some+in_ok-put_line w ↦ record {
        so_far = rw (w.lines-is, w.in_ok-put_line.ensures.put)
            (line_put c.args.facts.now c.loop-fact.fact-index c.fact-item.result w.in-Some.line c.loop-fact.lines.items
            c.loop-fact-test.true
            c.fact-item.is w.in-Some.is c.loop-fact.invariant.so_far);
        order = rw (w.lines-is, w.in_ok-put_line.ensures.put)
            (line_in_order c.args.facts.now c.loop-fact.fact-index c.fact-item.result w.in-Some.line
            c.loop-fact.lines.items c.loop-fact-test.true
            c.fact-item.is w.in-Some.is c.loop-fact.invariant.order);
        seen = rw (w.lines-is, w.seen-is) w.in_ok-put_line.ensures.seen;
      }
      | in_default w ↦ record {
        so_far = rw (w.lines-is)
            (line_passed c.args.facts.now c.loop-fact.fact-index c.fact-item.result c.loop-fact.lines.items
            c.loop-fact-test.true
            c.fact-item.is (no_line c.fact-item.result.line w.in_default.not-Some) c.loop-fact.invariant.so_far);
        order = rw (w.lines-is)
            (order_stays c.args.facts.now c.loop-fact.fact-index c.fact-item.result c.loop-fact.lines.items
            c.loop-fact-test.true
            c.fact-item.is (no_line c.fact-item.result.line w.in_default.not-Some) c.loop-fact.invariant.order);
        seen = rw (w.lines-is, w.seen-is) c.loop-fact.invariant.seen;
      }
    ]

pub returns-clause-order : goal.returns-clause-order
returns-clause-order c =
    lines_in_order c.args.facts.now c.loop-fact.fact-index c.loop-fact.lines.items
    (omega (arith, c.loop-fact-test.false))
    c.loop-fact.invariant.order
