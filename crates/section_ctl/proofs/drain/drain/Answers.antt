-- one held line more is drained
use Rattle.section_ctl.proofs.Drained.{drained_resident, fewer_drained_in, none_drained_in, one_more_drained_in}
use Rattle.section_ctl.proofs.drain.drain.Goals as goal

pub loop-line-init : goal.loop-line-init
loop-line-init c = none_drained_in c.args.sets.now c.args.pool.now c.args.hold.now c.requires.lent

pub drain_line-requires-clause-lent : goal.drain_line-requires-clause-lent
drain_line-requires-clause-lent c = c.loop-line.invariant.lent

pub drain_line-requires-clause-resident : goal.drain_line-requires-clause-resident
drain_line-requires-clause-resident c =
    drained_resident c.args.sets.now c.args.pool.now c.loop-line.pool c.loop-line.pool c.args.hold.now c.loop-line.hold
    c.loop-line.hold
    c.in-Some.line.number c.requires.marked c.loop-line.invariant (c.in-Some.ensures.held c.loop-line.pool)

pub loop-line-smaller : goal.loop-line-smaller
loop-line-smaller c =
    fewer_drained_in c.args.sets.now c.args.pool.now c.loop-line.pool c.drain_line.new.pool c.args.hold.now
    c.loop-line.hold c.drain_line.new.hold
    c.in-Some.line.number c.requires.marked c.loop-line.invariant (c.in-Some.ensures.held c.loop-line.pool)
    c.drain_line.ensures

pub loop-line-preserved : goal.loop-line-preserved
loop-line-preserved c =
    one_more_drained_in c.args.sets.now c.args.pool.now c.loop-line.pool c.drain_line.new.pool c.args.hold.now
    c.loop-line.hold
    c.drain_line.new.hold c.in-Some.line.number c.requires.marked c.loop-line.invariant
    (c.in-Some.ensures.held c.loop-line.pool)
    c.drain_line.ensures
