use Rattle.std.proofs.Common.{◌≤◌, ◌*◌, take}
use Rattle.lab.proofs.lock_rows.losses_to.Given as goal
use Rattle.lab.specs.LockRows.{AreLosses, times_at}
use Rattle.lab.specs.declared.tries.Acquire.{Acquire}

abbrev pub invariant-loop-begun : goal.invariant-loop-begun
invariant-loop-begun l = record {
  so_far : AreLosses l.winner.number (take l.begun-index l.tries) l.times;
  small : (acquire : Acquire) → times_at l.times acquire ≤ l.begun-index * 4294967295;
}
