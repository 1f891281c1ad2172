-- one mailbox has a message less
use Rattle.std.proofs.Common.{subst, sym}
use Rattle.snoop.proofs.Delivers.{taken_ready}
use Rattle.snoop.proofs.tests.message.Goals as goal
use Rattle.snoop.specs.Shows.{IsReady, bus_state}

pub invariant_of-rig-2 : goal.invariant_of-rig-2
invariant_of-rig-2 c = record {
  ready =
      subst (λ agents. IsReady (record (bus_state c.args.rig.now.bus) { agents = agents }))
      (sym c.take_message.ensures.rest)
      (taken_ready (bus_state c.args.rig.now.bus) c.args.hart.number c.args.rig.now.ready);
}
