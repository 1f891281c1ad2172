use Rattle.std.proofs.Common.{◌≡◌, take}
use Rattle.chronicle.specs.Tally.{IsTallyOf}
use Rattle.lab.proofs.locks.counts_of.Given as goal
use Rattle.lab.specs.Locks.{tally_at}

abbrev pub invariant-loop-begun : goal.invariant-loop-begun
invariant-loop-begun l = record {
  so_far : l.counts ≡ tally_at l.acquire (take l.begun-index l.tries);
  small : IsTallyOf l.begun-index l.counts;
}
