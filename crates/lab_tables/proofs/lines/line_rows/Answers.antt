-- one row more
use Rattle.std.proofs.Common.{◌≡◌, ◌+◌, subst, sym, take}
use Rattle.std.specs.Prelude.{All}
use Rattle.std.proofs.lemmas.List.Elements.{All-push}
use Rattle.lab_tables.proofs.LineRowing.{rows_pushed}
use Rattle.lab_tables.proofs.lines.line_rows.Goals as goal
use Rattle.lab_tables.specs.LineRows.{IsLineRow, lines_in}

pub loop-line-preserved : goal.loop-line-preserved
loop-line-preserved c = record {
  lines =
      subst (λ rows. lines_in rows ≡ take (c.loop-line.line-index + 1) c.deref-line-items.result.now)
      (sym c.in_ok-push.ensures.items)
      (rows_pushed c.loop-line.rows.items c.deref-line-items.result.now c.loop-line.line-index c.row.result
      c.line-item.result c.loop-line-test.true c.line-item.is c.row.ensures.line c.loop-line.invariant.lines);
  right =
      subst (All (IsLineRow c.args.facts.now)) (sym c.in_ok-push.ensures.items)
      (All-push (IsLineRow c.args.facts.now) c.loop-line.rows.items c.row.result
      c.loop-line.invariant.right (c.row.ensures.row c.args.facts.now c.in_ok-counts.ensures));
}
