use Rattle.std.proofs.Common.{arith}
use Rattle.chronicle.proofs.Counted.{entry_small, idle_counted, idle_small, own_then_losses, room_for_losses}
use Rattle.chronicle.specs.Counting.{tally_at}
use Rattle.chronicle.proofs.counts.count.Goals as goal

pub count_losses-requires : goal.count_losses-requires
count_losses-requires c =
    room_for_losses c.args.tallies.now c.args.entry.event.hart.number _ c.args.entry.outcome
    (omega (arith, c.args.entry.event.hart.small))
    c.count_own-steps.ensures.exact c.requires

pub returns-clause-exact : goal.returns-clause-exact
returns-clause-exact c =
    own_then_losses c.args.tallies.now c.count_losses.new.tallies c.args.entry _
    (omega (arith, c.args.entry.event.hart.small))
    c.count_own-steps.ensures.exact c.count_losses.ensures

pub returns-clause-small : goal.returns-clause-small
returns-clause-small c = entry_small c.args.entry c.count_own-steps.ensures.small

pub returns-in-Idle-clause-exact : goal.returns-in-Idle-clause-exact
returns-in-Idle-clause-exact c hart small =
    idle_counted (tally_at c.args.tallies.now hart) hart c.args.entry c.in-Idle.is

pub returns-in-Idle-clause-small : goal.returns-in-Idle-clause-small
returns-in-Idle-clause-small c = idle_small c.args.entry c.in-Idle.is
