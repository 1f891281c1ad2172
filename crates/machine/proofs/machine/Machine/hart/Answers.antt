-- the view that the parts have
use Rattle.std.proofs.Common.{◌∙◌, ap}
use Rattle.machine.proofs.GoesOn.{hart_there, now_in, reached_committed}
use Rattle.machine.proofs.machine.Machine.hart.Goals as goal
use Rattle.machine.specs.Story.{state_of}
use Rattle.rv_flat.specs.FlatState.{view_of}

pub hart-requires : goal.hart-requires
hart-requires c = hart_there _ _ _ _ _ c.self.invariant c.self.view_is c.requires

pub returns : goal.returns
returns c =
    c.hart.ensures.state (state_of c.args.self.now) (now_in _ _ _ _ c.self.invariant c.self.view_is)
    ∙ ap (λ state. view_of state c.args.hart.number) (reached_committed _ _ _ _ c.self.invariant c.self.view_is)
