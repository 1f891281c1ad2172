use Rattle.std.proofs.Common.{◌≡◌, take}
use Rattle.std.specs.Prelude.{All}
use Rattle.lab_tables.proofs.lines.line_rows.Given as goal
use Rattle.lab_tables.specs.LineRows.{IsLineRow, lines_in}

abbrev pub invariant-loop-line : goal.invariant-loop-line
invariant-loop-line l = record {
  lines : lines_in l.rows.items ≡ take l.line-index l.line-items;
  right : All (IsLineRow l.facts) l.rows.items;
}
