-- the rows of lines
use Rattle.std.specs.Prelude.{ℕ, ◌≡◌, All, List, [], count_by, map, slice_index, slice_index_or}
use Rattle.el_base.specs.declared.hart_id.HartId.{HartId}
use Rattle.el_base.specs.declared.line.LineAddr.{LineAddr}
use Rattle.el_base.specs.declared.outcomes.Need.TheVariants.{Read, Write}
use Rattle.lab.specs.Firsts.{firsts}
use Rattle.lab.specs.LineRows.{AreLinesOf, all_lines, counts_on, same_line}
use Rattle.lab.specs.declared.line_rows.LineCount.{LineCount}
use Rattle.lab.specs.declared.line_rows.LineCount.TheVariants.{Missed, Served, Owner, Lost, WrittenBack}
use Rattle.lab.specs.declared.lines.Fact.{Fact}
use Rattle.lab_tables.specs.declared.lines.LineRow.{LineRow}

-- how often it happened to a line
abbrev pub times : LineCount → LineAddr → List Fact → ℕ
times what line facts = count_by (counts_on what line.number) facts

-- how often one hart beat another, by their numbers
abbrev pub beats_in : List (List ℕ) → ℕ → ℕ → ℕ
beats_in beats winner loser = slice_index (slice_index_or beats winner []) loser

-- a row is what happened to its line
pub record IsLineRow (facts : List Fact) (row : LineRow) : Type 0 where
  pub missed_reads : row.missed_reads ≡ times (Missed Read) row.line facts
  pub missed_writes : row.missed_writes ≡ times (Missed Write) row.line facts
  pub served : row.served ≡ times Served row.line facts
  pub owners : row.owners ≡ times Owner row.line facts
  pub written_back : row.written_back ≡ times WrittenBack row.line facts
  pub beats : (winner loser : HartId) →
      beats_in row.beats winner.number loser.number ≡ times (Lost winner loser) row.line facts

abbrev pub lines_in : List LineRow → List LineAddr
lines_in rows = map (λ row. row.line) rows

-- each line of these facts has one row, no other has one, and each row is that of its line; the rows stand in the order
-- of the lines' first facts
pub record AreLineRows (facts : List Fact) (rows : List LineRow) : Type 0 where
  pub lines : AreLinesOf facts (lines_in rows)
  pub order : lines_in rows ≡ firsts same_line (all_lines facts)
  pub right : All (IsLineRow facts) rows
