-- what the bus tells of the state
use Rattle.std.proofs.Common.{◌∙◌, ◌<◌, length, subst, sym}
use Rattle.engine.proofs.Laws.BusEvents.{hart_exists}
use Rattle.machine.proofs.GoesOn.{hart_there, now_in, parts_stand}
use Rattle.machine.proofs.Readiness.{serve_goes}
use Rattle.machine.proofs.machine.Machine.serves.Goals as goal
use Rattle.machine.specs.Story.{state_of}
use Rattle.engine.specs.Shows.{IsReady, Shows}

pub serves-requires-clause-hart_exists : goal.serves-requires-clause-hart_exists
serves-requires-clause-hart_exists c =
    subst (λ bus. c.args.hart.number < length bus.agents) (sym c.bus.ensures)
    (hart_exists _ _ (parts_stand _ _ _ c.self.invariant)
    (hart_there _ _ _ _ _ c.self.invariant c.self.view_is c.requires))

pub serves-requires-clause-ready : goal.serves-requires-clause-ready
serves-requires-clause-ready c = subst IsReady (sym c.bus.ensures) c.self.invariant.ready

pub returns : goal.returns
returns c =
    let state = state_of c.args.self.now in
    c.serves.ensures.outcome state
    (subst (λ bus. Shows bus state) (sym c.bus.ensures) (now_in _ _ _ _ c.self.invariant c.self.view_is).shows)
    ∙ sym (serve_goes state c.args.hart)
