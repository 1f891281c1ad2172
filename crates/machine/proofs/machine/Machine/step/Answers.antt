-- the machine stands after the event
use Rattle.std.proofs.Common.{◌∙◌, [], ◌∷◌, ap, refl}
use Rattle.machine.proofs.GoesOn.{hart_there, now_in, now_reached, one_run, parts_stand, stands_more, told_more}
use Rattle.machine.proofs.Promised.{kept_by}
use Rattle.machine.specs.Story.{continued, state_of}
use Rattle.machine.proofs.machine.Machine.step.Goals as goal

pub step-outcome-requires-clause-hart_exists : goal.step-outcome-requires-clause-hart_exists
step-outcome-requires-clause-hart_exists c = hart_there _ _ _ _ _ c.self.invariant c.self.view_is c.requires.hart_exists

pub step-outcome-requires-clause-stands : goal.step-outcome-requires-clause-stands
step-outcome-requires-clause-stands c = parts_stand _ _ _ c.self.invariant

pub invariant_of-self : goal.invariant_of-self
invariant_of-self c =
    let below = rw (← c.self.view_is) at c.requires.hart_exists in
    let left = rw (← c.self.view_is) at c.requires.step_left in
    rw c.push.ensures
    (stands_more _ _ _ _ _ _ c.self.invariant below left c.step-outcome.ensures.ready c.step-outcome.ensures.state
    c.step-outcome.ensures.outcome c.step-outcome.ensures.memory)

pub returns-clause-one_run : goal.returns-clause-one_run
returns-clause-one_run c = one_run _ _ _ _ (invariant_of-self c) refl

pub returns-clause-goes_on : goal.returns-clause-goes_on
returns-clause-goes_on c =
    rw c.push.ensures
    (told_more _ _ _ _ _ c.self.invariant c.step-outcome.ensures.outcome
    ∙ ap (λ story. continued story (c.args.event ∷ [])) c.self.view_is)

pub returns-clause-outcome : goal.returns-clause-outcome
returns-clause-outcome c =
    c.step-outcome.ensures.outcome (state_of c.args.self.now) (now_reached _ _ _ _ c.self.invariant c.self.view_is)
    (now_in _ _ _ _ c.self.invariant c.self.view_is)

pub returns-clause-ends_are_named : goal.returns-clause-ends_are_named
returns-clause-ends_are_named c =
    (kept_by _ _ _ _ _ _ _ c.self.invariant c.self.view_is (returns-clause-goes_on c) (returns-clause-outcome c)).ends

pub returns-clause-losers_lost_to_less : goal.returns-clause-losers_lost_to_less
returns-clause-losers_lost_to_less c =
    (kept_by _ _ _ _ _ _ _ c.self.invariant c.self.view_is (returns-clause-goes_on c) (returns-clause-outcome c)).losers

pub returns-clause-least_never_loses : goal.returns-clause-least_never_loses
returns-clause-least_never_loses c =
    (kept_by _ _ _ _ _ _ _ c.self.invariant c.self.view_is (returns-clause-goes_on c) (returns-clause-outcome c)).least

pub returns-clause-line_of_least_moves_on : goal.returns-clause-line_of_least_moves_on
returns-clause-line_of_least_moves_on c =
    (kept_by _ _ _ _ _ _ _ c.self.invariant c.self.view_is (returns-clause-goes_on c) (returns-clause-outcome c)).line

pub returns-clause-stamps_stay : goal.returns-clause-stamps_stay
returns-clause-stamps_stay c =
    (kept_by _ _ _ _ _ _ _ c.self.invariant c.self.view_is (returns-clause-goes_on c) (returns-clause-outcome c)).stamps

pub returns-clause-releases_commit : goal.returns-clause-releases_commit
returns-clause-releases_commit c =
    (kept_by _ _ _ _ _ _ _ c.self.invariant c.self.view_is (returns-clause-goes_on c)
    (returns-clause-outcome c)).release

pub returns-clause-others_are_untouched : goal.returns-clause-others_are_untouched
returns-clause-others_are_untouched c =
    (kept_by _ _ _ _ _ _ _ c.self.invariant c.self.view_is (returns-clause-goes_on c) (returns-clause-outcome c)).others
