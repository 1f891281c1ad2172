-- the harts so far have given the line up
use Rattle.coherence.proofs.GivingUp.{GivenUpSoFar}
use Rattle.coherence.proofs.others.others_give_up.Given as goal

abbrev pub invariant-loop-number : goal.invariant-loop-number
invariant-loop-number l =
    GivenUpSoFar l.need l.hart.number l.line.number l.number l.initial.pool l.pool l.initial.caches.items l.caches.items
