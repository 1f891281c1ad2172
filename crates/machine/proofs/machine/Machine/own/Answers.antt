-- what the parts keep of a hart is the state's
use Rattle.machine.proofs.GoesOn.{hart_there, now_in}
use Rattle.machine.proofs.machine.Machine.own.Goals as goal
use Rattle.machine.specs.Story.{state_of}

pub own-requires : goal.own-requires
own-requires c = hart_there _ _ _ _ _ c.self.invariant c.self.view_is c.requires

pub returns : goal.returns
returns c = c.own.ensures.state (state_of c.args.self.now) (now_in _ _ _ _ c.self.invariant c.self.view_is)
