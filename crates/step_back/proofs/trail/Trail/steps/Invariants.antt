-- so many steps ran
use Rattle.std.proofs.Common.{◌≡◌, ◌++◌, replicate}
use Rattle.step_back.proofs.trail.Trail.steps.Given as goal

abbrev pub invariant-loop : goal.invariant-loop
invariant-loop l = l.self ≡ record l.initial.self { harts = l.initial.self.harts ++ replicate l.counter l.hart.number }
