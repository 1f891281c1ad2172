use Rattle.std.proofs.Common.{◌≡◌, take}
use Rattle.lab.proofs.line_rows.lines_of.Given as goal
use Rattle.lab.specs.Firsts.{firsts}
use Rattle.lab.specs.LineRows.{AreLinesOf, AreSeenLines, all_lines, same_line}

abbrev pub invariant-loop-fact : goal.invariant-loop-fact
invariant-loop-fact l = record {
  so_far : AreLinesOf (take l.fact-index l.facts) l.lines.items;
  order : l.lines.items ≡ firsts same_line (all_lines (take l.fact-index l.facts));
  seen : AreSeenLines l.lines.items l.seen;
}
