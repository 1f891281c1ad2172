use Rattle.std.proofs.Common.{◌≡◌}
use Rattle.bus_lock.proofs.tests.push_all.Given as goal

abbrev pub invariant-loop-count : goal.invariant-loop-count
invariant-loop-count g l = (l.pass.lock ≡ l.initial.pass.lock) × (l.pass.share ≡ l.initial.pass.share)
