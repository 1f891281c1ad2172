-- one agent holds no line any more
use Rattle.snoop.proofs.Ready.{ready_agent}
use Rattle.snoop.proofs.tests.events.give_up.Goals as goal
use Rattle.snoop.specs.Shows.{bus_state}

pub invariant_of-rig : goal.invariant_of-rig
invariant_of-rig c = record {
  ready =
      rw c.hold_nothing.ensures
      (ready_agent (bus_state c.args.rig.now.bus) c.args.hart.number _ c.args.rig.now.ready (λ request is. is)
      (c.args.rig.now.ready.few_armed c.args.hart.number));
}
