-- whether every hart of the state has stopped
use Rattle.machine.proofs.GoesOn.{now_in}
use Rattle.machine.proofs.machine.Machine.over.Goals as goal
use Rattle.machine.specs.Story.{state_of}

pub returns : goal.returns
returns c = c.over.ensures.state (state_of c.args.self.now) (now_in _ _ _ _ c.self.invariant c.self.view_is)
