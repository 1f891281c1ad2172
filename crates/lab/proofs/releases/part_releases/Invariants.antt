use Rattle.std.proofs.Common.{◌≡◌, take}
use Rattle.lab.proofs.releases.part_releases.Given as goal
use Rattle.lab.specs.Releases.{AreLast, releases_of, takes_of}

abbrev pub invariant-loop-begun : goal.invariant-loop-begun
invariant-loop-begun l = record {
  takes : l.parted.takes.items ≡ takes_of l.swaps (take l.begun-index l.tries);
  releases : l.parted.releases.items ≡ releases_of l.swaps (take l.begun-index l.tries);
  last : AreLast l.swaps l.last;
}
