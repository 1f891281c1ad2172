-- the harts so far have lost such reservations, and the others are as they were
use Rattle.engine.specs.Parts.{own_at}
use Rattle.engine.specs.Unreserved.{AreUnreservedBelow, written_by}
use Rattle.engine.proofs.others_reservations.unreserve_others.Given as goal
use Rattle.line_pool.specs.Pooled.{Pooled}

abbrev pub invariant-loop-other : goal.invariant-loop-other
invariant-loop-other l =
    (pool : Pooled) →
    AreUnreservedBelow l.other l.hart.number (written_by pool (own_at l.initial.harts.items l.hart.number))
    l.initial.harts.items l.harts.items
