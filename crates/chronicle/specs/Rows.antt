-- The rows in which a history keeps its entries.
use Rattle.std.specs.Prelude.{ℕ, ◌<◌, List, get_or}
use Rattle.el_base.specs.declared.entries.Entry.{Entry}
use Rattle.el_base.specs.declared.outcomes.Outcome.{Outcome}
use Rattle.el_base.specs.declared.outcomes.Outcome.TheVariants as outcomes
use Rattle.chronicle.specs.declared.rows.Brief.{Brief}
use Rattle.chronicle.specs.declared.rows.Brief.TheVariants.{Armed, Began, Blocked, Buffered, Idle, Ran, Stalled}
use Rattle.chronicle.specs.declared.rows.Row.{Row}
use Rattle.chronicle.specs.declared.rows.Row.TheVariants.{Listed, Short}

-- the outcome that a brief one is
abbrev pub outcome_of : Brief → Outcome
outcome_of Idle = outcomes.Idle
outcome_of Stalled = outcomes.Stalled
outcome_of Ran = outcomes.Ran
outcome_of Began = outcomes.Began
outcome_of Buffered = outcomes.Buffered
outcome_of (Blocked why by) = outcomes.Blocked why by
outcome_of Armed = outcomes.Armed

-- the entry that a row keeps beside a list of outcomes
abbrev pub entry_of : List Outcome → Row → Entry
entry_of long (Short event outcome) = record { event = event; outcome = outcome_of outcome }
entry_of long (Listed event place) = record { event = event; outcome = get_or long place outcomes.Idle }

-- where the row's outcome lies in the list, it has a place among so many
abbrev pub IsAmong : ℕ → Row → Type 0
IsAmong outcomes (Short event outcome) = Unit {0}
IsAmong outcomes (Listed event place) = place < outcomes
