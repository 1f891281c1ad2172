-- a turn in which the hart waits, or that goes on by its events of the bus, or ends
use Rattle.std.proofs.Common.{◌+◌, ◌*◌, refl, subst, sym}
use Rattle.drive.proofs.GoingRound.{at_its_end, first_of_turn, three_made, turn_made}
use Rattle.drive.specs.Drivers.{GoesRound}
use Rattle.machine.specs.Story.{Story}
use Rattle.drive.proofs.rounds.make_turn.Goals as goal

pub returns-then-wait-clause-goes_on : goal.returns-then-wait-clause-goes_on
returns-then-wait-clause-goes_on c before turns round own made =
    let waits = c.wait.ensures in
    let is = c.if-wait.true in
    turn_made _ _ _ turns _ round (waits.runs is) (waits.steps_left is) own (waits.goes_on is) (waits.throughout is)

pub returns-then-not-make-clause-ended : goal.returns-then-not-make-clause-ended
returns-then-not-make-clause-ended c before turns round own none =
    let Before : Story → Type 0 = λ now. GoesRound before now (4 * turns) in
    at_its_end _ _ _ _ (subst Before (sym (c.wait.ensures.left c.if-wait.false)) round)
    (c.make.ensures.ended c.if-not-make.true) (c.make.ensures.left c.if-not-make.true)

pub returns-then-rest-clause-goes_on : goal.returns-then-rest-clause-goes_on
returns-then-rest-clause-goes_on c before turns round own made =
    let step = c.make.ensures in
    let is = c.if-not-make.false in
    let Before : Story → Type 0 = λ now. GoesRound before now (4 * turns) in
    let still = subst Before (sym (c.wait.ensures.left c.if-wait.false)) round in
    let stepped = first_of_turn _ _ _ turns _ still refl own (step.runs is) (step.step_left is) (step.goes_on is) in
    let rests = c.rest.ensures in
    let then = c.if-rest.true in
    three_made _ _ _ turns _ stepped (rests.runs then) (rests.steps_left then) own (rests.goes_on then)
    (rests.throughout then)

pub returns-clause-goes_on : goal.returns-clause-goes_on
returns-clause-goes_on c before turns round own made =
    let step = c.make.ensures in
    let is = c.if-not-make.false in
    let Before : Story → Type 0 = λ now. GoesRound before now (4 * turns) in
    let still = subst Before (sym (c.wait.ensures.left c.if-wait.false)) round in
    let stepped = first_of_turn _ _ _ turns _ still refl own (step.runs is) (step.step_left is) (step.goes_on is) in
    let At : Story → Type 0 = λ now. GoesRound before now (4 * turns + 1) in
    c.make_on_bus.ensures.goes_on before turns (subst At (sym (c.rest.ensures.left c.if-rest.false)) stepped) own made

pub returns-clause-ended : goal.returns-clause-ended
returns-clause-ended c before turns round own none =
    let step = c.make.ensures in
    let is = c.if-not-make.false in
    let Before : Story → Type 0 = λ now. GoesRound before now (4 * turns) in
    let still = subst Before (sym (c.wait.ensures.left c.if-wait.false)) round in
    let stepped = first_of_turn _ _ _ turns _ still refl own (step.runs is) (step.step_left is) (step.goes_on is) in
    let At : Story → Type 0 = λ now. GoesRound before now (4 * turns + 1) in
    c.make_on_bus.ensures.ended before turns (subst At (sym (c.rest.ensures.left c.if-rest.false)) stepped) own none
