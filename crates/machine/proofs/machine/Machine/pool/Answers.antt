-- the pool of the parts
use Rattle.std.proofs.Common.{subst, sym}
use Rattle.machine.proofs.GoesOn.{now_in}
use Rattle.machine.proofs.InSections.{lends_state}
use Rattle.machine.proofs.machine.Machine.pool.Goals as goal
use Rattle.machine.specs.Lending.{LendsState}
use Rattle.machine.specs.Story.{state_of}

pub returns : goal.returns
returns c =
    subst (λ pool. LendsState pool (state_of c.args.self.now)) (sym c.pool.ensures)
    (lends_state _ _ (now_in _ _ _ _ c.self.invariant c.self.view_is))
