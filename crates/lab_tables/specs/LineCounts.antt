-- the counts that the rows of lines are made of
use Rattle.std.specs.Prelude.{ℕ, ◌≡◌, All, Bool, true, false, List, Some, filter, length, slice_get, slice_index}
use Rattle.std.specs.Global.{Vec}
use Rattle.el_base.specs.declared.hart_id.HartId.{HartId}
use Rattle.el_base.specs.declared.outcomes.Need.TheVariants.{Read, Write}
use Rattle.lab.specs.LineRows.{AreCountsOf, times_in}
use Rattle.lab.specs.declared.line_rows.LineCount.TheVariants as counted
use Rattle.lab.specs.declared.line_rows.LineCounts.{LineCounts}
use Rattle.lab.specs.declared.lines.Fact.{Fact}
use Rattle.lab.specs.declared.lines.LineFact.{LineFact}
use Rattle.lab.specs.declared.lines.LineFact.TheVariants.{Lost}
use Rattle.lab_tables.specs.LineRows.{beats_in}
use Rattle.lab_tables.specs.declared.lines.Counts as code

-- whether a fact tells of a loss
abbrev pub is_lost : LineFact → Bool
is_lost (Lost winner loser) = true
is_lost _ = false

abbrev pub is_loss : Fact → Bool
is_loss fact = is_lost fact.what

-- the first of these counts are how often a hart beat the first harts
abbrev pub AreBeatenBelow : List Fact → HartId → List LineCounts → Type 0
AreBeatenBelow losses winner lists =
    (loser : HartId) (counts : LineCounts) → slice_get lists loser.number ≡ Some counts →
    AreCountsOf (counted.Lost winner loser) losses counts

-- how often a hart beat each other one
pub record AreBeatenBy (losses : List Fact) (winner : HartId) (lists : List LineCounts) : Type 0 where
  pub eight : length lists ≡ 8
  pub each : AreBeatenBelow losses winner lists

-- how often each of the first harts beat each other one
abbrev pub AreAllBeatenBelow : List Fact → List (Vec LineCounts) → Type 0
AreAllBeatenBelow losses lists =
    (winner : HartId) (list : Vec LineCounts) → slice_get lists winner.number ≡ Some list →
    AreBeatenBy losses winner list.items

pub record AreAllBeaten (losses : List Fact) (lists : List (Vec LineCounts)) : Type 0 where
  pub eight : length lists ≡ 8
  pub sizes : All (λ list. length list.items ≡ 8) lists
  pub each : AreAllBeatenBelow losses lists

-- these numbers are those of a line in each of the counts
abbrev pub ShowsEach : List LineCounts → ℕ → List ℕ → Type 0
ShowsEach lists line numbers =
    (hart : ℕ) (counts : LineCounts) → slice_get lists hart ≡ Some counts →
    slice_index numbers hart ≡ times_in counts line

abbrev pub ShowsAll : List (Vec LineCounts) → ℕ → List (List ℕ) → Type 0
ShowsAll lists line beats =
    (winner loser : ℕ) (list : Vec LineCounts) (counts : LineCounts) → slice_get lists winner ≡ Some list →
    slice_get list.items loser ≡ Some counts → beats_in beats winner loser ≡ times_in counts line

-- these are the counts of some facts
pub record AreOf (facts : List Fact) (counts : code.Counts) : Type 0 where
  pub missed_reads : AreCountsOf (counted.Missed Read) facts counts.missed_reads
  pub missed_writes : AreCountsOf (counted.Missed Write) facts counts.missed_writes
  pub served : AreCountsOf counted.Served facts counts.served
  pub owners : AreCountsOf counted.Owner facts counts.owners
  pub written_back : AreCountsOf counted.WrittenBack facts counts.written_back
  pub beaten : AreAllBeaten (filter is_loss facts) counts.beaten.items
