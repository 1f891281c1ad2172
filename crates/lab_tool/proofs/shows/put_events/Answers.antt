use Rattle.lab_tool.proofs.shows.put_events.Goals as goal
use Rattle.machine.proofs.Laws.Continued.{one_followed, one_left}

pub make-requires-clause-step_left : goal.make-requires-clause-step_left
make-requires-clause-step_left g c =
    one_left c.args.machine.now c.loop-event.machine c.args.events.now c.loop-event.event-index
    c.loop-event.invariant c.loop-event-test.true c.requires.enough_steps

pub loop-event-preserved : goal.loop-event-preserved
loop-event-preserved g c =
    one_followed c.args.machine.now c.loop-event.machine c.make.new.machine c.args.events.now c.loop-event.event-index
    c.event-item.result c.loop-event.invariant c.loop-event-test.true c.event-item.is c.make.ensures.goes_on
