-- one event after another
use Rattle.lab.proofs.Following.{tries_more}
use Rattle.lab.proofs.Telling.{told_more}
use Rattle.lab.proofs.follow.watch.Goals as goal
use Rattle.lab.specs.Lines.{facts_in}
use Rattle.lab.specs.Swaps.{swaps_in}
use Rattle.machine.proofs.Laws.Continued.{one_followed, one_left}

pub make-requires-clause-step_left : goal.make-requires-clause-step_left
make-requires-clause-step_left c =
    one_left c.args.machine.now c.loop-event.machine c.args.events.now c.loop-event.event-index
    c.loop-event.invariant.0 c.loop-event-test.true c.requires.enough_steps

pub loop-event-preserved : goal.loop-event-preserved
loop-event-preserved c = (
  one_followed c.args.machine.now c.loop-event.machine c.make.new.machine c.args.events.now c.loop-event.event-index
      c.event-item.result c.loop-event.invariant.0 c.loop-event-test.true c.event-item.is c.in_ok-make.ensures.goes_on,
  tries_more c.args.machine.now c.loop-event.machine c.args.events.now c.loop-event.event-index c.event-item.result
      c.loop-event.watched.tries c.make.new.watched.tries c.loop-event.invariant.0
      c.loop-event-test.true c.event-item.is
      c.loop-event.invariant.1 c.in_ok-make.ensures.tries,
  c.in_ok-make.ensures.live,
  told_more swaps_in c.args.machine.now c.loop-event.machine c.args.events.now c.loop-event.event-index
      c.event-item.result
      c.loop-event.watched.swaps.items c.make.new.watched.swaps.items c.loop-event.invariant.0
      c.loop-event-test.true c.event-item.is
      c.loop-event.invariant.3 c.in_ok-make.ensures.swaps,
  told_more facts_in c.args.machine.now c.loop-event.machine c.args.events.now c.loop-event.event-index
      c.event-item.result
      c.loop-event.watched.facts.items c.make.new.watched.facts.items c.loop-event.invariant.0
      c.loop-event-test.true c.event-item.is
      c.loop-event.invariant.4 c.in_ok-make.ensures.facts,
)
