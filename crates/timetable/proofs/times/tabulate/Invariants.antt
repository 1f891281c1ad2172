use Rattle.std.proofs.Common.{◌≡◌, ℕ, ◌<◌, length}
use Rattle.timetable.specs.Rows.{row_at}
use Rattle.timetable.proofs.Standing.{RowSays}
use Rattle.timetable.proofs.times.tabulate.Given as goal

abbrev pub invariant-loop-place : goal.invariant-loop-place
invariant-loop-place g l = record {
  rows : length l.rows ≡ 8;
  so_far : (h : ℕ) → h < 8 → RowSays h (g.C.Chronicled.entries l.history) l.place (row_at l.rows h);
}
