-- the instructions of the harts so far ran
use Rattle.std.proofs.Common.{◌≡◌, ◌++◌}
use Rattle.el_base.specs.Freed.{order_below}
use Rattle.step_back.proofs.trail.Trail.let_go.Given as goal

abbrev pub invariant-loop-number : goal.invariant-loop-number
invariant-loop-number l =
    l.self ≡ record l.initial.self { harts = l.initial.self.harts ++ order_below l.number l.freed }
