-- Units of work: a stated convention, and no cycles.
use Rattle.std.specs.Prelude.{ℕ, ◌+◌, ◌==◌, if◌then◌else◌}
use Rattle.chronicle.specs.Tally.{has_lost}
use Rattle.el_base.specs.declared.entries.Entry.{Entry}
use Rattle.el_base.specs.declared.outcomes.Outcome.{Outcome}
use Rattle.el_base.specs.declared.outcomes.Outcome.TheVariants.{Idle, LetGo, Ordered, RolledBack, Served}

-- the units of an event for its own hart, by its outcome
abbrev pub cost : Outcome → ℕ
cost Idle = 0
cost (LetGo count) = 0
cost (Ordered losers freed) = 4
cost (RolledBack cause) = 10
cost (Served losers freed) = 20
cost _ = 1

-- the units that a hart is charged for each loss
abbrev pub loss_charge : ℕ
loss_charge = 10

-- the units of an event for this hart: as its own, and as a loss
unfoldable pub units_at : ℕ → Entry → ℕ
units_at h entry =
    (if entry.event.hart.number == h then cost entry.outcome else 0)
    + (if has_lost h entry.outcome then loss_charge else 0)
