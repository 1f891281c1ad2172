use Rattle.std.proofs.Common.{◌≡◌, take}
use Rattle.std.specs.Prelude.{All}
use Rattle.lab_tables.proofs.locks.lock_rows.Given as goal
use Rattle.lab_tables.specs.LockRows.{IsLockRow, acquires_in}

abbrev pub invariant-loop-acquire : goal.invariant-loop-acquire
invariant-loop-acquire l = record {
  acquires : acquires_in l.rows.items ≡ take l.acquire-index l.acquire-items;
  right : All (IsLockRow l.kind l.tries l.swaps) l.rows.items;
}
