use Rattle.std.proofs.Common.{arith}
use Rattle.machine.proofs.Compared.{all_agree, first_differs, followed, none_compared, one_compared}
use Rattle.machine.proofs.following.follow_recorded.Goals as goal
use Rattle.machine.proofs.Laws.Continued.{one_left}

pub loop-place-init : goal.loop-place-init
loop-place-init c = none_compared _ _ _

pub make-found-requires-clause-step_left : goal.make-found-requires-clause-step_left
make-found-requires-clause-step_left c =
    one_left c.args.machine.now c.loop-place.machine c.args.events.now c.loop-place.place c.loop-place.invariant.story
    c.loop-place-test.true c.requires.enough_steps

pub loop-place-preserved : goal.loop-place-preserved
loop-place-preserved c =
    one_compared _ _ _ _ _ _ _ _ _ _ _ c.loop-place.invariant c.requires.one_each c.loop-place-test.true
    c.index-events-place.is c.index-recorded-place.is c.make-found.ensures.goes_on c.make-found.ensures.outcome
    c.first_up_to-first.ensures.agrees c.first_up_to-first.ensures.earlier c.first_up_to-first.ensures.here

pub returns-clause-followed : goal.returns-clause-followed
returns-clause-followed c =
    followed _ _ _ _ _ _ c.loop-place.invariant (omega (arith, c.loop-place.auto.place-end, c.loop-place-test.false))
    c.requires.one_each

pub returns-clause-differs : goal.returns-clause-differs
returns-clause-differs c =
    first_differs _ _ _ _ _ _ c.loop-place.invariant
    (omega (arith, c.loop-place.auto.place-end, c.loop-place-test.false)) c.requires.one_each

pub returns-clause-agrees : goal.returns-clause-agrees
returns-clause-agrees c =
    all_agree _ _ _ _ _ _ c.loop-place.invariant
    (omega (arith, c.loop-place.auto.place-end, c.loop-place-test.false)) c.requires.one_each
