use Rattle.std.proofs.Common.{◌≡◌, ◌++◌, drop, map, take}
use Rattle.cache_sets.specs.Kept.{committed_way, with_way}
use Rattle.cache_sets.proofs.set.commit.Given as goal

abbrev pub invariant-loop-line : goal.invariant-loop-line
invariant-loop-line l =
    l.lines ≡ map (with_way committed_way) (take l.line-index l.fn.lines) ++ drop l.line-index l.fn.lines
