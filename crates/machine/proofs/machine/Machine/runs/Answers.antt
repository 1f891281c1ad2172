-- the view of the state
use Rattle.machine.proofs.GoesOn.{hart_there}
use Rattle.machine.proofs.machine.Machine.runs.Goals as goal

pub hart-requires : goal.hart-requires
hart-requires c = hart_there _ _ _ _ _ c.self.invariant c.self.view_is c.requires
