-- what a hart has asked of the bus
use Rattle.machine.proofs.GoesOn.{hart_there, now_in, parts_stand}
use Rattle.machine.proofs.machine.Machine.request.Goals as goal
use Rattle.machine.specs.Story.{state_of}

pub request-requires-clause-hart_exists : goal.request-requires-clause-hart_exists
request-requires-clause-hart_exists c = hart_there _ _ _ _ _ c.self.invariant c.self.view_is c.requires

pub request-requires-clause-stands : goal.request-requires-clause-stands
request-requires-clause-stands c = parts_stand _ _ _ c.self.invariant

pub returns : goal.returns
returns c = c.request.ensures (state_of c.args.self.now) (now_in _ _ _ _ c.self.invariant c.self.view_is)
