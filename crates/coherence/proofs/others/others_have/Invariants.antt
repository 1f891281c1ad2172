-- whether one of the harts from the number on has a copy
use Rattle.std.proofs.Common.{◌≡◌, ◌≤◌, drop, length}
use Rattle.coherence.specs.Caches.{others_from}
use Rattle.coherence.specs.Lent.{lent_all}
use Rattle.line_pool.specs.Pooled.{Pooled}
use Rattle.coherence.proofs.others.others_have.Given as goal

abbrev pub invariant-loop-number : goal.invariant-loop-number
invariant-loop-number l =
    (l.number ≤ length l.caches)
    × ((pool : Pooled) → l.some ≡ others_from l.number (drop l.number (lent_all pool l.caches))
    l.hart.number l.line.number)

abbrev pub decreases-loop-number : goal.decreases-loop-number
decreases-loop-number l = l.number
