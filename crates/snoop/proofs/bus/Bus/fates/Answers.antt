-- the fate of one hart more, and of all
use Rattle.std.proofs.Common.{arith}
use Rattle.bus_order.specs.Order.{numbered}
use Rattle.snoop.proofs.Facing.{all_fates, one_fate_more}
use Rattle.snoop.proofs.bus.Bus.fates.Goals as goal
use Rattle.snoop.specs.Shows.{bus_state}

pub loop-number-preserved : goal.loop-number-preserved
loop-number-preserved g c =
    rw c.push.ensures.items
    (one_fate_more (bus_state c.args.self.now) (numbered c.args.head) c.loop-number.number c.at.result.number _ _
    c.loop-number.invariant c.at.ensures c.fate.ensures)

pub returns-clause-each : goal.returns-clause-each
returns-clause-each g c =
    all_fates (bus_state c.args.self.now) (numbered c.args.head) c.loop-number.number c.loop-number.fates.items
    c.loop-number.invariant (omega arith)
