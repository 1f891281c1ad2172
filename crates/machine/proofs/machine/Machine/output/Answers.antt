-- what the parts have of the output
use Rattle.std.proofs.Common.{◌≤◌, ◌∙◌, ap, length, subst}
use Rattle.machine.proofs.GoesOn.{now_in, reached_committed}
use Rattle.machine.proofs.machine.Machine.output.Goals as goal
use Rattle.rv_flat.specs.FlatState.{output_limit}

pub returns-clause-exact : goal.returns-clause-exact
returns-clause-exact c =
    c.output.ensures.exact ∙ (now_in _ _ _ _ c.self.invariant c.self.view_is).output
    ∙ ap (λ state. state.output) (reached_committed _ _ _ _ c.self.invariant c.self.view_is)

pub returns-clause-within_limit : goal.returns-clause-within_limit
returns-clause-within_limit c =
    subst (λ output. length output ≤ output_limit)
    ((now_in _ _ _ _ c.self.invariant c.self.view_is).output
    ∙ ap (λ state. state.output) (reached_committed _ _ _ _ c.self.invariant c.self.view_is))
    c.output.ensures.within_limit
