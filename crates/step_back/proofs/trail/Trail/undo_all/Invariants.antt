-- so many steps are taken back
use Rattle.std.proofs.Common.{◌≡◌, ◌-◌, length, take}
use Rattle.step_back.proofs.trail.Trail.undo_all.Given as goal

abbrev pub invariant-loop : goal.invariant-loop
invariant-loop l =
    l.self ≡ record l.initial.self { harts = take (length l.initial.self.harts - l.counter) l.initial.self.harts }
