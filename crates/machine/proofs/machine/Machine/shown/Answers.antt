-- what the parts show of a hart
use Rattle.machine.proofs.GoesOn.{hart_there, now_in}
use Rattle.machine.proofs.machine.Machine.shown.Goals as goal
use Rattle.machine.specs.Story.{state_of}

pub shown-requires : goal.shown-requires
shown-requires c = hart_there _ _ _ _ _ c.self.invariant c.self.view_is c.requires

pub returns : goal.returns
returns c = c.shown.ensures.state (state_of c.args.self.now) (now_in _ _ _ _ c.self.invariant c.self.view_is)
