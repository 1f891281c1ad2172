-- The outcomes that can be recorded: those that name harts of the machine alone, and counts that an event can have.
use Rattle.std.specs.Prelude.{◌≡◌, ℕ, ◌<◌, ◌≤◌, Some}
use Rattle.el_base.specs.Freed.{count_in}
use Rattle.el_base.specs.Losers.{beaten_by}
use Rattle.el_base.specs.declared.freed.Freed.{Freed}
use Rattle.el_base.specs.declared.losers.Losers.{Losers}
use Rattle.el_base.specs.declared.outcomes.Outcome.{Outcome}
use Rattle.el_base.specs.declared.outcomes.Outcome.TheVariants.{Blocked, Committed, Delivered, LetGo, Ordered, Served}

-- the most instructions that one letting go makes take effect
abbrev pub most_let_go : ℕ
most_let_go = 15

-- each hart that lost, and each that it lost to, is one of so many
abbrev pub AreLosersAmong : ℕ → Losers → Type 0
AreLosersAmong harts losers =
    (loser winner : ℕ) → beaten_by losers loser ≡ Some winner → (loser < harts) × (winner < harts)

-- none past so many harts was let go
abbrev pub AreFreedAmong : ℕ → Freed → Type 0
AreFreedAmong harts freed = (h : ℕ) → harts ≤ h → count_in freed h ≡ 0

-- an outcome of a machine of so many harts, whose sections have so many instructions at most, can be recorded: each
-- hart that it names is one of those, a commit has from one instruction to that many, and a letting go from one to 15
abbrev pub IsRecordable : ℕ → ℕ → Outcome → Type 0
IsRecordable harts long (Committed count) = (1 ≤ count) × (count ≤ long)
IsRecordable harts long (LetGo count) = (1 ≤ count) × (count ≤ most_let_go)
IsRecordable harts long (Ordered losers freed) = AreLosersAmong harts losers × AreFreedAmong harts freed
IsRecordable harts long (Served losers freed) = AreLosersAmong harts losers × AreFreedAmong harts freed
IsRecordable harts long (Delivered losers) = AreLosersAmong harts losers
IsRecordable harts long (Blocked why by) = by.number < harts
IsRecordable harts long _ = Unit {0}
