-- the facts of each line, counted
use Rattle.std.specs.Prelude.{ℕ, ◌≡◌, Bool, true, false, ◌==◌, ◌&&◌, ◌++◌, ◌∷◌, [], List, Option, None, Some, count_by}
use Rattle.std.specs.Prelude.{filter_map, nat_eq, unwrap_or}
use Rattle.std.specs.Prelude.{if◌then◌else◌}
use Rattle.std.specs.HashMap.{get}
use Rattle.std.specs.HashSet.{HashSet, contains}
use Rattle.std.specs.List.{IsDistinct, list_any}
use Rattle.el_base.specs.declared.line.LineAddr.{LineAddr}
use Rattle.el_base.specs.declared.outcomes.Need.{Need}
use Rattle.el_base.specs.declared.outcomes.Need.TheVariants.{Read, Write}
use Rattle.lab.specs.declared.line_rows.LineCount.{LineCount}
use Rattle.lab.specs.declared.line_rows.LineCount.TheVariants as counted
use Rattle.lab.specs.declared.line_rows.LineCounts as rows
use Rattle.lab.specs.declared.lines.Fact.{Fact}
use Rattle.lab.specs.declared.lines.LineFact.{LineFact}
use Rattle.lab.specs.declared.lines.LineFact.TheVariants.{Missed, Served, Owner, Lost, WroteBack}

abbrev pub same_need : Need → Need → Bool
same_need Read Read = true
same_need Write Write = true
same_need _ _ = false

-- whether a fact is one that is counted
abbrev pub is_counted : LineCount → LineFact → Bool
is_counted (counted.Missed wanted) (Missed hart need) = same_need wanted need
is_counted counted.Served (Served hart need) = true
is_counted counted.Owner (Owner from to) = true
is_counted (counted.Lost winner loser) (Lost by of) = (winner.number == by.number) && (loser.number == of.number)
is_counted counted.WrittenBack (WroteBack hart) = true
is_counted _ _ = false

-- whether a line is the one of this number
abbrev pub is_line : ℕ → Option LineAddr → Bool
is_line number None = false
is_line number (Some line) = line.number == number

-- whether a fact is one of a line, and one that is counted of it
abbrev pub is_on : ℕ → Fact → Bool
is_on number fact = is_line number fact.line

abbrev pub counts_on : LineCount → ℕ → Fact → Bool
counts_on what number fact = is_on number fact && is_counted what fact.what

-- how often it is said to have happened to a line
abbrev pub times_in : rows.LineCounts → ℕ → ℕ
times_in counts number = unwrap_or (get nat_eq counts.times number) 0

-- of each line, so many facts are counted
abbrev pub AreCountsOf : LineCount → List Fact → rows.LineCounts → Type 0
AreCountsOf what facts counts = (number : ℕ) → times_in counts number ≡ count_by (counts_on what number) facts

abbrev pub same_line : LineAddr → LineAddr → Bool
same_line a b = a.number == b.number

-- whether one of these lines has this number
abbrev pub has_line : List LineAddr → ℕ → Bool
has_line lines number = list_any (λ line. line.number == number) lines

-- these are the lines of some facts, each once
pub record AreLinesOf (facts : List Fact) (lines : List LineAddr) : Type 0 where
  pub once : IsDistinct same_line lines
  pub each : (number : ℕ) → has_line lines number ≡ list_any (is_on number) facts

-- the lines of facts
abbrev pub all_lines : List Fact → List LineAddr
all_lines facts = filter_map (λ fact. fact.line) facts

-- lines with one more behind them, unless it is among them
abbrev pub with_line : LineAddr → List LineAddr → List LineAddr
with_line line lines = if has_line lines line.number then lines else lines ++ line ∷ []

-- a set has the numbers of these lines, and nothing else
abbrev pub AreSeenLines : {S : Type 0} → List LineAddr → HashSet ℕ S → Type 0
AreSeenLines lines seen = (number : ℕ) → contains nat_eq seen number ≡ has_line lines number
