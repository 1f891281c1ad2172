use Rattle.std.proofs.Common.{take}
use Rattle.chronicle.specs.Tally.{IsTallyOf}
use Rattle.lab.proofs.lock_rows.tally_acquires.Given as goal
use Rattle.lab.specs.LockRows.{AreRows, row_at}
use Rattle.lab.specs.declared.tries.Acquire.{Acquire}

abbrev pub invariant-loop-begun : goal.invariant-loop-begun
invariant-loop-begun l = record {
  so_far : AreRows (take l.begun-index l.tries) l.rows;
  small : (acquire : Acquire) → IsTallyOf l.begun-index (row_at l.rows acquire);
}
