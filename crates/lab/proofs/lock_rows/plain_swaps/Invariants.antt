use Rattle.std.proofs.Common.{◌≤◌, take}
use Rattle.lab.proofs.lock_rows.plain_swaps.Given as goal
use Rattle.lab.specs.LockRows.{ArePlain, times_at}
use Rattle.lab.specs.declared.tries.Acquire.{Acquire}

abbrev pub invariant-loop-swap : goal.invariant-loop-swap
invariant-loop-swap l = record {
  so_far : ArePlain l.why (take l.swap-index l.swaps) l.times;
  small : (acquire : Acquire) → times_at l.times acquire ≤ l.swap-index;
}
