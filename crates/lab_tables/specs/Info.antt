-- outcomes, counted
use Rattle.std.specs.Prelude.{Bool, true, false}
use Rattle.el_base.specs.declared.outcomes.Outcome.{Outcome}
use Rattle.el_base.specs.declared.outcomes.Outcome.TheVariants as outcomes
use Rattle.lab_tables.specs.declared.info.Came.{Came}
use Rattle.lab_tables.specs.declared.info.Came.TheVariants.{Idle, Stalled, Missed, Ran, Armed, LetGo, Began, Buffered}
use Rattle.lab_tables.specs.declared.info.Came.TheVariants.{Committed, RolledBack, Ordered}
use Rattle.lab_tables.specs.declared.info.Came.TheVariants.{Served, Blocked, Delivered}

-- what an outcome is, whatever it tells beside that
abbrev pub came_as : Outcome → Came
came_as outcomes.Idle = Idle
came_as outcomes.Stalled = Stalled
came_as (outcomes.Missed line need) = Missed
came_as outcomes.Ran = Ran
came_as outcomes.Armed = Armed
came_as (outcomes.LetGo count) = LetGo
came_as outcomes.Began = Began
came_as outcomes.Buffered = Buffered
came_as (outcomes.Committed count) = Committed
came_as (outcomes.RolledBack cause) = RolledBack
came_as (outcomes.Ordered losers freed) = Ordered
came_as (outcomes.Served losers freed) = Served
came_as (outcomes.Blocked why by) = Blocked
came_as (outcomes.Delivered losers) = Delivered

abbrev pub same_came : Came → Came → Bool
same_came Idle Idle = true
same_came Stalled Stalled = true
same_came Missed Missed = true
same_came Ran Ran = true
same_came Armed Armed = true
same_came LetGo LetGo = true
same_came Began Began = true
same_came Buffered Buffered = true
same_came Committed Committed = true
same_came RolledBack RolledBack = true
same_came Ordered Ordered = true
same_came Served Served = true
same_came Blocked Blocked = true
same_came Delivered Delivered = true
same_came _ _ = false

abbrev pub is_came : Came → Outcome → Bool
is_came came outcome = same_came (came_as outcome) came
