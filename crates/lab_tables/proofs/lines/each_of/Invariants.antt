use Rattle.std.proofs.Common.{◌≡◌, ℕ, ◌<◌, Some, length}
use Rattle.std.specs.Prelude.{slice_get, slice_index}
use Rattle.lab.specs.LineRows.{times_in}
use Rattle.lab.specs.declared.line_rows.LineCounts.{LineCounts}
use Rattle.lab_tables.proofs.lines.each_of.Given as goal

abbrev pub invariant-loop-hart : goal.invariant-loop-hart
invariant-loop-hart l = record {
  eight : length l.numbers ≡ 8;
  shown : (hart : ℕ) (counts : LineCounts) → hart < l.hart → slice_get l.lists hart ≡ Some counts →
      slice_index l.numbers hart ≡ times_in counts l.line.number;
}
