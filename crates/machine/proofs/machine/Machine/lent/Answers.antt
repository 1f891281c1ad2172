-- the pool, the bus and a section of the parts
use Rattle.std.proofs.Common.{◌∙◌, subst, sym}
use Rattle.coherence.specs.Beginning.{line_of}
use Rattle.engine.specs.Parts.{parts}
use Rattle.machine.proofs.GoesOn.{hart_there, now_in, reached_committed}
use Rattle.machine.proofs.InSections.{lent_here, tells_run}
use Rattle.machine.proofs.machine.Machine.lent.Goals as goal
use Rattle.machine.specs.Lending.{LendsSection, TellsRun}
use Rattle.machine.specs.Story.{committed, state_of}
use Rattle.engine.specs.Shows.{IsReady, Shows, Tells, bus_state}

pub section_state-requires : goal.section_state-requires
section_state-requires c = hart_there _ _ _ _ _ c.self.invariant c.self.view_is c.requires

pub returns-clause-ready : goal.returns-clause-ready
returns-clause-ready c = subst IsReady (sym c.bus.ensures) c.self.invariant.ready

pub returns-clause-shows : goal.returns-clause-shows
returns-clause-shows c =
    subst (λ bus. Shows bus (state_of c.args.self.now)) (sym c.bus.ensures)
    (now_in _ _ _ _ c.self.invariant c.self.view_is).shows

pub returns-clause-told : goal.returns-clause-told
returns-clause-told c =
    let is_in = now_in _ _ _ _ c.self.invariant c.self.view_is in
    let state = state_of c.args.self.now in
    subst (λ flat. Tells c.pool.result.now (bus_state c.bus.result.now) (line_of flat))
    (reached_committed _ _ _ _ c.self.invariant c.self.view_is)
    (subst (λ pool. Tells pool (bus_state c.bus.result.now) (line_of state.committed)) (sym c.pool.ensures)
    (subst (λ bus. Tells (parts c.self.inside.engine).pool bus (line_of state.committed))
    (sym c.bus.ensures) is_in.told))

pub returns-clause-section : goal.returns-clause-section
returns-clause-section c =
    let state = state_of c.args.self.now in
    let kept = c.section_state.result.now in
    subst (λ pool. LendsSection pool state c.args.hart.number kept) (sym c.pool.ensures)
    (lent_here _ state _ kept (now_in _ _ _ _ c.self.invariant c.self.view_is)
    (hart_there _ _ _ _ _ c.self.invariant c.self.view_is c.requires) c.section_state.ensures.exact)

pub returns-clause-run : goal.returns-clause-run
returns-clause-run c section live =
    let state = state_of c.args.self.now in
    let is_in = now_in _ _ _ _ c.self.invariant c.self.view_is in
    subst (λ pool. TellsRun pool state (committed c.args.self.now) c.args.hart.number section
    c.section_state.result.now) (sym c.pool.ensures)
    (tells_run _ _ _ _ _ _ section _ c.self.invariant c.self.view_is (c.section_state.ensures.keeps state is_in)
    (sym (c.section_state.ensures.live state is_in) ∙ live))
