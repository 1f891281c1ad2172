-- What can be recorded of sections of some length can be of longer ones.
use Rattle.std.proofs.Common.{◌≤◌, ℕ, List, arith}
use Rattle.std.specs.Prelude.{All}
use Rattle.el_base.specs.Recordable.{IsRecordable}
use Rattle.el_base.specs.declared.outcomes.Outcome.{Outcome}
use Rattle.el_base.specs.declared.outcomes.Outcome.TheVariants.{Idle, Stalled, Missed, Ran, Began, Buffered, Committed}
use Rattle.el_base.specs.declared.outcomes.Outcome.TheVariants.{RolledBack, Ordered, Served}
use Rattle.el_base.specs.declared.outcomes.Outcome.TheVariants.{Blocked, Delivered, Armed, LetGo}

pub still_recordable : (harts long more : ℕ) → long ≤ more → (outcome : Outcome) → IsRecordable harts long outcome →
    IsRecordable harts more outcome
still_recordable harts long more longer Idle can = tt
still_recordable harts long more longer Stalled can = tt
still_recordable harts long more longer (Missed line need) can = tt
still_recordable harts long more longer Ran can = tt
still_recordable harts long more longer Began can = tt
still_recordable harts long more longer Buffered can = tt
still_recordable harts long more longer (Committed count) can = let most = can.1 in (can.0, omega (arith, longer, most))
still_recordable harts long more longer (RolledBack cause) can = tt
still_recordable harts long more longer (Ordered losers freed) can = can
still_recordable harts long more longer (Served losers freed) can = can
still_recordable harts long more longer (Blocked why by) can = can
still_recordable harts long more longer (Delivered losers) can = can
still_recordable harts long more longer Armed can = tt
still_recordable harts long more longer (LetGo count) can = can

pub all_still_recordable : (harts long more : ℕ) (outcomes : List Outcome) → long ≤ more →
    All (IsRecordable harts long) outcomes → All (IsRecordable harts more) outcomes
all_still_recordable harts long more outcomes longer can =
    λ k other within. still_recordable harts long more longer _ (can k other within)
