-- what the bus tells of the state
use Rattle.std.proofs.Common.{◌∙◌, ◌<◌, length, subst, sym}
use Rattle.engine.proofs.Laws.BusEvents.{hart_exists}
use Rattle.machine.proofs.GoesOn.{hart_there, now_in, parts_stand}
use Rattle.machine.proofs.Readiness.{deliver_goes}
use Rattle.machine.proofs.machine.Machine.has_mail.Goals as goal
use Rattle.machine.specs.Story.{state_of}
use Rattle.engine.specs.Shows.{Shows}

pub has_mail-requires : goal.has_mail-requires
has_mail-requires c =
    subst (λ bus. c.args.hart.number < length bus.agents) (sym c.bus.ensures)
    (hart_exists _ _ (parts_stand _ _ _ c.self.invariant)
    (hart_there _ _ _ _ _ c.self.invariant c.self.view_is c.requires))

pub returns : goal.returns
returns c =
    let state = state_of c.args.self.now in
    c.has_mail.ensures.outcome state
    (subst (λ bus. Shows bus state) (sym c.bus.ensures) (now_in _ _ _ _ c.self.invariant c.self.view_is).shows)
    ∙ sym (deliver_goes state c.args.hart)
