-- the copies of lines
use Rattle.std.proofs.Common.{◌∙◌, ap, length, subst, sym}
use Rattle.machine.proofs.GoesOn.{as_many, now_in, now_lines}
use Rattle.machine.proofs.machine.Machine.bus.Goals as goal
use Rattle.machine.specs.Story.{state_of}
use Rattle.engine.specs.Shows.{IsReady, Shows}

pub returns-clause-harts : goal.returns-clause-harts
returns-clause-harts c =
    let is_in = now_in _ _ _ _ c.self.invariant c.self.view_is in
    ap (λ bus. length bus.agents) c.bus.ensures ∙ is_in.shows.agent_each ∙ sym is_in.one_each
    ∙ as_many _ _ _ _ c.self.invariant c.self.view_is

pub returns-clause-ready : goal.returns-clause-ready
returns-clause-ready c = subst IsReady (sym c.bus.ensures) c.self.invariant.ready

pub returns-clause-shows : goal.returns-clause-shows
returns-clause-shows c =
    subst (λ bus. Shows bus (state_of c.args.self.now)) (sym c.bus.ensures)
    (now_in _ _ _ _ c.self.invariant c.self.view_is).shows

pub returns-clause-memory : goal.returns-clause-memory
returns-clause-memory c = ap (λ bus. bus.copies.lines) c.bus.ensures ∙ now_lines _ _ _ _ c.self.invariant c.self.view_is
