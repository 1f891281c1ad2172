use Rattle.std.proofs.Common.{arith, inr}
use Rattle.bus_lock.proofs.tests.push.Goals as goal

pub release-requires-2-clause-entries : goal.release-requires-2-clause-entries
release-requires-2-clause-entries g c = inr (
  c.args.entry,
  grind (arith, c.push.ensures, c.change.ensures.value, c.hold-held.ensures.pass),
)
