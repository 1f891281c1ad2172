-- the section that the parts keep
use Rattle.std.proofs.Common.{◌∙◌, ap, sym}
use Rattle.machine.proofs.GoesOn.{hart_there, now_in, reached_committed}
use Rattle.machine.proofs.InSections.{keeps_armed, kept_of, lent_here, marked_anywhere, tells_run}
use Rattle.machine.proofs.machine.Machine.section_state.Goals as goal
use Rattle.machine.specs.Story.{state_of}
use Rattle.rv_flat.specs.FlatState.{view_of}

pub section_state-requires : goal.section_state-requires
section_state-requires c = hart_there _ _ _ _ _ c.self.invariant c.self.view_is c.requires

pub returns-clause-live : goal.returns-clause-live
returns-clause-live c =
    c.section_state.ensures.live (state_of c.args.self.now) (now_in _ _ _ _ c.self.invariant c.self.view_is)

pub returns-clause-armed : goal.returns-clause-armed
returns-clause-armed c =
    c.section_state.ensures.armed (state_of c.args.self.now) (now_in _ _ _ _ c.self.invariant c.self.view_is)

pub returns-clause-keeps_armed : goal.returns-clause-keeps_armed
returns-clause-keeps_armed c reserved is =
    keeps_armed _ _ _ _ _ reserved c.section_state.result.now c.self.invariant c.self.view_is
    (c.section_state.ensures.keeps_armed (state_of c.args.self.now) (now_in _ _ _ _ c.self.invariant c.self.view_is)) is

pub returns-clause-run : goal.returns-clause-run
returns-clause-run c section live =
    let state = state_of c.args.self.now in
    let is_in = now_in _ _ _ _ c.self.invariant c.self.view_is in
    record {
      pool = _;
      lent =
          (lent_here _ state _ _ is_in (hart_there _ _ _ _ _ c.self.invariant c.self.view_is c.requires)
          c.section_state.ensures.exact).lent;
      tells =
          tells_run _ _ _ _ _ _ section _ c.self.invariant c.self.view_is (c.section_state.ensures.keeps state is_in)
          (sym (c.section_state.ensures.live state is_in) ∙ live);
    }

pub returns-clause-marked : goal.returns-clause-marked
returns-clause-marked c section pool live =
    let state = state_of c.args.self.now in
    let is_in = now_in _ _ _ _ c.self.invariant c.self.view_is in
    marked_anywhere _ pool _ c.section_state.result.now
    (kept_of _ state _ section _ (c.section_state.ensures.keeps state is_in)
    (sym (c.section_state.ensures.live state is_in) ∙ live)).marked

pub returns-clause-nothing : goal.returns-clause-nothing
returns-clause-nothing c =
    c.section_state.ensures.nothing (state_of c.args.self.now) (now_in _ _ _ _ c.self.invariant c.self.view_is)

pub returns-clause-view : goal.returns-clause-view
returns-clause-view c =
    c.section_state.ensures.view (state_of c.args.self.now) (now_in _ _ _ _ c.self.invariant c.self.view_is)
    ∙ ap (λ state. view_of state c.args.hart.number) (reached_committed _ _ _ _ c.self.invariant c.self.view_is)

pub returns-clause-shown : goal.returns-clause-shown
returns-clause-shown c =
    c.section_state.ensures.shown (state_of c.args.self.now) (now_in _ _ _ _ c.self.invariant c.self.view_is)
