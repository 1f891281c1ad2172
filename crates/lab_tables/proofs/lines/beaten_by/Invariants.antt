use Rattle.std.proofs.Common.{◌≡◌, length}
use Rattle.lab_tables.proofs.lines.beaten_by.Given as goal
use Rattle.lab_tables.specs.LineCounts.{AreBeatenBelow}

abbrev pub invariant-loop-number : goal.invariant-loop-number
invariant-loop-number l = record {
  so_far : length l.lists.items ≡ l.number;
  each : AreBeatenBelow l.losses l.winner l.lists.items;
}
