use Rattle.std.proofs.Common.{◌≡◌, ℕ, ◌<◌, Some, length}
use Rattle.std.specs.Global.{Vec}
use Rattle.std.specs.Prelude.{slice_get}
use Rattle.lab.specs.LineRows.{times_in}
use Rattle.lab.specs.declared.line_rows.LineCounts.{LineCounts}
use Rattle.lab_tables.proofs.lines.all_of.Given as goal
use Rattle.lab_tables.specs.LineRows.{beats_in}

abbrev pub invariant-loop-winner : goal.invariant-loop-winner
invariant-loop-winner l = record {
  eight : length l.beats ≡ 8;
  shown : (winner loser : ℕ) (list : Vec LineCounts) (counts : LineCounts) → winner < l.winner →
      slice_get l.lists winner ≡ Some list → slice_get list.items loser ≡ Some counts →
      beats_in l.beats winner loser ≡ times_in counts l.line.number;
}
