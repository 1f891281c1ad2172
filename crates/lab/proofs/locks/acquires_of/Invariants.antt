use Rattle.std.proofs.Common.{◌≡◌, [], take}
use Rattle.lab.proofs.locks.acquires_of.Given as goal
use Rattle.lab.specs.Firsts.{firsts}
use Rattle.lab.specs.Locks.{AreAcquiresOf, AreAmong, AreSeen, all_acquires, same_acquire}

abbrev pub invariant-loop-begun : goal.invariant-loop-begun
invariant-loop-begun l = record {
  so_far : AreAcquiresOf (take l.begun-index l.tries) l.acquires.items;
  order : l.acquires.items ≡ firsts same_acquire (all_acquires (take l.begun-index l.tries) []);
  seen : AreSeen l.acquires.items l.seen;
}

abbrev pub invariant-loop-swap : goal.invariant-loop-swap
invariant-loop-swap l = record {
  sections : AreAcquiresOf l.tries l.acquires.items;
  so_far : AreAmong (take l.swap-index l.swaps) l.acquires.items;
  order : l.acquires.items ≡ firsts same_acquire (all_acquires l.tries (take l.swap-index l.swaps));
  seen : AreSeen l.acquires.items l.seen;
}
