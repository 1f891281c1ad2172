-- a turn in which the hart waits: four events that leave all as it is
use Rattle.std.proofs.Common.{◌∙◌, sym}
use Rattle.machine.proofs.GoesOn.{hart_there, now_in, one_run}
use Rattle.machine.proofs.Resting.{four_made, left_still, runs_then, throughout_turn}
use Rattle.engine.proofs.Laws.Waiting.{waits_throughout}
use Rattle.machine.specs.Story.{state_of}
use Rattle.machine.proofs.machine.Machine.wait.Goals as goal

pub waiting-requires-clause-hart_exists : goal.waiting-requires-clause-hart_exists
waiting-requires-clause-hart_exists c = hart_there _ _ _ _ _ c.self.invariant c.self.view_is c.requires.hart_exists

pub returns-in_default-clause-one_run : goal.returns-in_default-clause-one_run
returns-in_default-clause-one_run c = one_run _ _ _ _ c.self.invariant c.self.view_is

pub leave-requires-clause-leaves : goal.leave-requires-clause-leaves
leave-requires-clause-leaves c =
    let state = state_of c.args.self.now in
    let now = now_in _ _ _ _ c.self.invariant c.self.view_is in
    (waits_throughout state c.args.hart _ (sym (c.waiting.ensures state now) ∙ c.in-Some.is)).step

pub leave-requires-2-clause-leaves : goal.leave-requires-2-clause-leaves
leave-requires-2-clause-leaves c =
    let state = state_of c.args.self.now in
    let now = now_in _ _ _ _ c.self.invariant c.self.view_is in
    left_still _ _ _ _ c.leave.ensures.same_state
    (waits_throughout state c.args.hart _ (sym (c.waiting.ensures state now) ∙ c.in-Some.is)).order

pub leave-requires-3-clause-leaves : goal.leave-requires-3-clause-leaves
leave-requires-3-clause-leaves c =
    let state = state_of c.args.self.now in
    let now = now_in _ _ _ _ c.self.invariant c.self.view_is in
    left_still _ _ _ _ (c.leave-2.ensures.same_state ∙ c.leave.ensures.same_state)
    (waits_throughout state c.args.hart _ (sym (c.waiting.ensures state now) ∙ c.in-Some.is)).serve

pub leave-requires-4-clause-leaves : goal.leave-requires-4-clause-leaves
leave-requires-4-clause-leaves c =
    let state = state_of c.args.self.now in
    let now = now_in _ _ _ _ c.self.invariant c.self.view_is in
    left_still _ _ _ _ (c.leave-3.ensures.same_state ∙ c.leave-2.ensures.same_state ∙ c.leave.ensures.same_state)
    (waits_throughout state c.args.hart _ (sym (c.waiting.ensures state now) ∙ c.in-Some.is)).deliver

pub returns-clause-made : goal.returns-clause-made
returns-clause-made c waits =
    four_made _ _ _ _ _ _ _ _ _ c.leave.ensures.goes_on c.leave-2.ensures.goes_on c.leave-3.ensures.goes_on
    c.leave-4.ensures.goes_on

pub returns-clause-runs : goal.returns-clause-runs
returns-clause-runs c waits =
    let state = state_of c.args.self.now in
    let now = now_in _ _ _ _ c.self.invariant c.self.view_is in
    runs_then state c.args.hart.number _ (sym (c.waiting.ensures state now) ∙ c.in-Some.is)

pub returns-clause-throughout : goal.returns-clause-throughout
returns-clause-throughout c waits made =
    let state = state_of c.args.self.now in
    let now = now_in _ _ _ _ c.self.invariant c.self.view_is in
    throughout_turn c.args.self.now c.args.hart _ (sym (c.waiting.ensures state now) ∙ c.in-Some.is) made
