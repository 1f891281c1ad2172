use Rattle.std.proofs.Common.{◌≡◌}
use Rattle.lab.proofs.releases.LastSwaps.go_on.Given as goal
use Rattle.lab.specs.Releases.{AreLast}

abbrev pub invariant-loop-index : goal.invariant-loop-index
invariant-loop-index l = record {
  last : AreLast l.swaps l.self;
  seen : l.self.seen ≡ l.index;
  reached : l.self.reached ≡ l.place;
}
