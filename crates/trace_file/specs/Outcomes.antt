-- Outcomes in a trace: the spelling of each.
use Rattle.std.specs.Prelude.{ℕ, ◌+◌, ◌*◌, List, [], ◌∷◌, ◌++◌}
use Rattle.byteorder.specs.Endian.{little_bytes}
use Rattle.el_base.specs.Freed.{count_in}
use Rattle.el_base.specs.Losers.{beaten_by, winner_code}
use Rattle.el_base.specs.NibblePairs.{pairs_of}
use Rattle.el_base.specs.declared.freed.Freed.{Freed}
use Rattle.el_base.specs.declared.hart_id.HartId.{HartId}
use Rattle.el_base.specs.declared.losers.Losers.{Losers}
use Rattle.el_base.specs.declared.outcomes.Need.{Need}
use Rattle.el_base.specs.declared.outcomes.Need.TheVariants.{Read, Write}
use Rattle.el_base.specs.declared.outcomes.Outcome.{Outcome}
use Rattle.el_base.specs.declared.outcomes.Outcome.TheVariants.{Idle, Stalled, Missed, Ran, Began, Buffered, Committed}
use Rattle.el_base.specs.declared.outcomes.Outcome.TheVariants.{RolledBack, Ordered, Served}
use Rattle.el_base.specs.declared.outcomes.Outcome.TheVariants.{Blocked, Delivered, Armed, LetGo}
use Rattle.el_base.specs.declared.outcomes.Why.{Why}
use Rattle.trace_file.specs.Codes.{cause_code, why_code}

-- ---- codes

-- the code of a miss, by what the hart wanted of the line
abbrev pub missed_code : Need → ℕ
missed_code Read = 2
missed_code Write = 3

-- ---- spelling

-- four bits a hart, that of hart 0 lowest: one more than its winner, or 0 where it has not lost
abbrev pub losers_bytes : Losers → List ℕ
losers_bytes losers = pairs_of (λ h. winner_code (beaten_by losers h))

-- four bits a hart, that of hart 0 lowest: how many of its instructions took effect
abbrev pub freed_bytes : Freed → List ℕ
freed_bytes freed = pairs_of (count_in freed)

abbrev pub blocking_byte : Why → HartId → ℕ
blocking_byte why by = 16 * why_code why + by.number

-- the code of the outcome, and then its fields
abbrev pub outcome_spelling : Outcome → List ℕ
outcome_spelling Idle = 0 ∷ []
outcome_spelling Stalled = 1 ∷ []
outcome_spelling (Missed line need) = missed_code need ∷ little_bytes 4 line.number
outcome_spelling Ran = 4 ∷ []
outcome_spelling Began = 5 ∷ []
outcome_spelling Buffered = 6 ∷ []
outcome_spelling (Committed count) = 7 ∷ little_bytes 4 count
outcome_spelling (RolledBack cause) = 8 ∷ cause_code cause ∷ []
outcome_spelling (Ordered losers freed) = 9 ∷ (losers_bytes losers ++ freed_bytes freed)
outcome_spelling (Served losers freed) = 10 ∷ (losers_bytes losers ++ freed_bytes freed)
outcome_spelling (Blocked why by) = 11 ∷ blocking_byte why by ∷ []
outcome_spelling (Delivered losers) = 12 ∷ losers_bytes losers
outcome_spelling Armed = 13 ∷ []
outcome_spelling (LetGo count) = 14 ∷ little_bytes 1 count

-- ---- ranges

-- the most instructions that a section commits
abbrev pub most_committed : ℕ
most_committed = 65536
