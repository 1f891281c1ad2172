use Rattle.std.proofs.Common.{◌≡◌, ◌*◌, ◌≤◌, length}
use Rattle.el_base.specs.Freed.{order_below}
use Rattle.el_base.proofs.freed.Freed.total.Given as goal

abbrev pub invariant-loop-number : goal.invariant-loop-number
invariant-loop-number l =
    (l.total ≡ length (order_below l.number l.self)) × (l.total ≤ l.number * 15) × (l.number ≤ 8)
