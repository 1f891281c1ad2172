-- what comes next in the parts is what comes next in the state
use Rattle.std.proofs.Common.{◌∙◌, subst, sym}
use Rattle.machine.proofs.GoesOn.{hart_there, now_in, same_span}
use Rattle.machine.proofs.machine.Machine.next_action.Goals as goal
use Rattle.machine.specs.Story.{state_of}
use Rattle.rv_alu.specs.Footprint.{IsInPlace}
use Rattle.rv_alu.specs.declared.span.Span.{Span}
use Rattle.rv_flat.specs.FlatState.{room_of}

pub next_action-requires : goal.next_action-requires
next_action-requires c = hart_there _ _ _ _ _ c.self.invariant c.self.view_is c.requires

pub returns-clause-exact : goal.returns-clause-exact
returns-clause-exact c =
    c.next_action.ensures.state (state_of c.args.self.now) (now_in _ _ _ _ c.self.invariant c.self.view_is)

pub returns-clause-in_place : goal.returns-clause-in_place
returns-clause-in_place c =
    let state = state_of c.args.self.now in
    let is_in = now_in _ _ _ _ c.self.invariant c.self.view_is in
    let InSpan : Span → Type 0 = λ span. IsInPlace span (room_of state.committed) c.next_action.result in
    subst InSpan (sym is_in.span ∙ same_span _ _ _ _ c.self.invariant c.self.view_is)
    (c.next_action.ensures.placed state is_in)
