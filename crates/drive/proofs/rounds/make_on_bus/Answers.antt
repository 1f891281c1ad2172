-- the events of the bus in a turn, one after another
use Rattle.std.proofs.Common.{◌+◌, ◌*◌, arith, refl}
use Rattle.drive.proofs.GoingRound.{at_its_end, next_of_turn}
use Rattle.drive.proofs.rounds.make_on_bus.Goals as goal

pub returns-then-not-make-clause-ended : goal.returns-then-not-make-clause-ended
returns-then-not-make-clause-ended c before turns round own none =
    let order = c.make.ensures in
    at_its_end _ _ _ _ round (order.ended c.if-not-make.true) (order.left c.if-not-make.true)

pub returns-then-not-make-2-clause-ended : goal.returns-then-not-make-2-clause-ended
returns-then-not-make-2-clause-ended c before turns round own none =
    let order = c.make.ensures in
    let is = c.if-not-make.false in
    let ordered =
    next_of_turn _ _ _ turns 1 (4 * turns + 2) _ round (omega arith) (omega arith) refl own (order.runs is)
    (order.step_left is) (order.goes_on is) in
    let serve = c.make-2.ensures in
    at_its_end _ _ _ _ ordered (serve.ended c.if-not-make-2.true) (serve.left c.if-not-make-2.true)

pub returns-clause-goes_on : goal.returns-clause-goes_on
returns-clause-goes_on c before turns round own made =
    let order = c.make.ensures in
    let is = c.if-not-make.false in
    let ordered =
    next_of_turn _ _ _ turns 1 (4 * turns + 2) _ round (omega arith) (omega arith) refl own (order.runs is)
    (order.step_left is) (order.goes_on is) in
    let serve = c.make-2.ensures in
    let then = c.if-not-make-2.false in
    let served =
    next_of_turn _ _ _ turns 2 (4 * turns + 3) _ ordered (omega arith) (omega arith) refl own (serve.runs then)
    (serve.step_left then) (serve.goes_on then) in
    let deliver = c.make-3.ensures in
    next_of_turn _ _ _ turns 3 (4 * turns + 4) _ served (omega arith) (omega arith) refl own (deliver.runs made)
    (deliver.step_left made) (deliver.goes_on made)

pub returns-clause-ended : goal.returns-clause-ended
returns-clause-ended c before turns round own none =
    let order = c.make.ensures in
    let is = c.if-not-make.false in
    let ordered =
    next_of_turn _ _ _ turns 1 (4 * turns + 2) _ round (omega arith) (omega arith) refl own (order.runs is)
    (order.step_left is) (order.goes_on is) in
    let serve = c.make-2.ensures in
    let then = c.if-not-make-2.false in
    let served =
    next_of_turn _ _ _ turns 2 (4 * turns + 3) _ ordered (omega arith) (omega arith) refl own (serve.runs then)
    (serve.step_left then) (serve.goes_on then) in
    let deliver = c.make-3.ensures in
    at_its_end _ _ _ _ served (deliver.ended none) (deliver.left none)
