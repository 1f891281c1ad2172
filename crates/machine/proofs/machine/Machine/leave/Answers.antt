-- the machine stands after an event that leaves all as it is
use Rattle.std.proofs.Common.{◌∙◌, [], ◌∷◌, ap, refl}
use Rattle.el_base.specs.declared.events.Event.{Event}
use Rattle.machine.proofs.GoesOn.{one_run}
use Rattle.machine.proofs.Resting.{same_after, stands_left, told_left}
use Rattle.machine.specs.Story.{continued, state_of}
use Rattle.machine.proofs.machine.Machine.leave.Goals as goal

pub invariant_of-self : goal.invariant_of-self
invariant_of-self c =
    let below = rw (← c.self.view_is) at c.requires.hart_exists in
    let left = rw (← c.self.view_is) at c.requires.step_left in
    let leaves = rw (← c.self.view_is) at c.requires.leaves in
    rw c.push.ensures (stands_left _ _ _ _ _ c.self.invariant below left leaves)

pub returns-clause-goes_on : goal.returns-clause-goes_on
returns-clause-goes_on c =
    let event : Event = record { kind = c.args.kind; hart = c.args.hart } in
    let leaves = rw (← c.self.view_is) at c.requires.leaves in
    rw c.push.ensures
    (told_left _ event _ leaves ∙ ap (λ story. continued story (event ∷ [])) c.self.view_is)

pub returns-clause-same_state : goal.returns-clause-same_state
returns-clause-same_state c =
    ap state_of (returns-clause-goes_on c) ∙ same_after c.args.self.now _ _ c.requires.leaves

pub returns-clause-one_run : goal.returns-clause-one_run
returns-clause-one_run c = one_run _ _ _ _ (invariant_of-self c) refl
