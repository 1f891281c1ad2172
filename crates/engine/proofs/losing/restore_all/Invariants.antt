-- the harts so far are what the event leaves to them, and the others are as they were
use Rattle.el_base.specs.Freed.{count_in}
use Rattle.el_base.specs.Losers.{beaten_by}
use Rattle.engine.proofs.RestoredHarts.{IsRestoredBelow}
use Rattle.engine.proofs.losing.restore_all.Given as goal

abbrev pub invariant-loop-number : goal.invariant-loop-number
invariant-loop-number l =
    IsRestoredBelow l.number l.mode (beaten_by l.losers) (λ g. count_in l.freed g) l.initial.pool l.pool
    l.initial.harts.items l.harts.items
