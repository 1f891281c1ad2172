use Rattle.std.proofs.Common.{◌≡◌, length}
use Rattle.lab_tables.proofs.locks.losses.Given as goal
use Rattle.lab_tables.specs.LockCounts.{AreLossesBelow}

abbrev pub invariant-loop-number : goal.invariant-loop-number
invariant-loop-number l = record {
  so_far : length l.lists.items ≡ l.number;
  each : AreLossesBelow l.tries l.lists.items;
}
