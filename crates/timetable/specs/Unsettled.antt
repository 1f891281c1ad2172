-- Instructions of which it is not settled yet whether they take effect.
use Rattle.std.specs.Prelude.{ℕ, Bool, true, false, not, ◌&&◌, ◌||◌, ◌==◌, nat_lt, List, reverse, count_by, take_while}
use Rattle.chronicle.specs.Tally.{has_lost}
use Rattle.el_base.specs.Freed.{count_in}
use Rattle.el_base.specs.LetGo.{freed_of_outcome}
use Rattle.el_base.specs.declared.entries.Entry.{Entry}
use Rattle.el_base.specs.declared.outcomes.Outcome.{Outcome}
use Rattle.el_base.specs.declared.outcomes.Outcome.TheVariants.{Armed, Began, Buffered, Committed, LetGo, RolledBack}

-- one instruction of the event's hart ran in private
abbrev pub is_private : Outcome → Bool
is_private Armed = true
is_private Began = true
is_private Buffered = true
is_private _ = false

-- all that the event's hart ran in private took effect, or was thrown away
abbrev pub ends_private : Outcome → Bool
ends_private (Committed count) = true
ends_private (RolledBack cause) = true
ends_private (LetGo count) = true
ends_private _ = false

-- how many private instructions of this hart took effect since the event let it go
abbrev pub freed_by : Outcome → ℕ → ℕ
freed_by outcome h = count_in (freed_of_outcome outcome) h

-- one instruction of this hart ran in private
abbrev pub adds : ℕ → Entry → Bool
adds h entry = entry.event.hart.number == h && is_private entry.outcome

-- nothing of this hart is private any more: it ended that, lost, or was let go
abbrev pub settles : ℕ → Entry → Bool
settles h entry =
    entry.event.hart.number == h && ends_private entry.outcome
    || has_lost h entry.outcome
    || nat_lt 0 (freed_by entry.outcome h)

-- how many instructions of this hart are not settled after these entries: those that ran in private since the last
-- entry that settled all before
unfoldable pub unsettled : ℕ → List Entry → ℕ
unsettled h entries = count_by (adds h) (take_while (λ entry. not (settles h entry)) (reverse entries))
