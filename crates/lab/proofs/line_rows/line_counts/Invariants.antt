use Rattle.std.proofs.Common.{◌≡◌, ℕ, count_by, nat_eq, take, unwrap_or}
use Rattle.std.specs.HashMap.{get}
use Rattle.lab.proofs.line_rows.line_counts.Given as goal
use Rattle.lab.specs.LineRows.{counts_on}

abbrev pub invariant-loop-fact : goal.invariant-loop-fact
invariant-loop-fact l =
    (number : ℕ) → unwrap_or (get nat_eq l.times number) 0 ≡ count_by (counts_on l.what number)
    (take l.fact-index l.facts)
