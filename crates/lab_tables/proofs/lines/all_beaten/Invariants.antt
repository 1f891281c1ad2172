use Rattle.std.proofs.Common.{◌≡◌, length}
use Rattle.std.specs.Prelude.{All}
use Rattle.lab_tables.proofs.lines.all_beaten.Given as goal
use Rattle.lab_tables.specs.LineCounts.{AreAllBeatenBelow}

abbrev pub invariant-loop-number : goal.invariant-loop-number
invariant-loop-number l = record {
  so_far : length l.lists.items ≡ l.number;
  sizes : All (λ list. length list.items ≡ 8) l.lists.items;
  each : AreAllBeatenBelow l.losses l.lists.items;
}
