-- the harts so far have lost their reservations on the line
use Rattle.std.proofs.Common.{◌≡◌, ◌++◌, map, take, drop}
use Rattle.hart_state.specs.Deeds.{unreserved_own}
use Rattle.engine.proofs.reservations.unreserve_all.Given as goal

abbrev pub invariant-loop-hart : goal.invariant-loop-hart
invariant-loop-hart l =
    l.harts ≡ map (unreserved_own l.line.number) (take l.hart-index l.initial.harts)
    ++ drop l.hart-index l.initial.harts
