-- one hart more has its fate
use Rattle.std.proofs.Common.{◌≡◌, arith}
use Rattle.bus_order.specs.Order.{numbered}
use Rattle.snoop.proofs.LosersBelow.{fate_read}
use Rattle.snoop.proofs.Settles.{one_settled}
use Rattle.snoop.proofs.bus.Bus.settle_all.Goals as goal
use Rattle.snoop.specs.Fates.{fate_in, numbered_fate}
use Rattle.snoop.specs.Shows.{bus_state}

pub loop-number-preserved : goal.loop-number-preserved
loop-number-preserved c =
    let known = c.args.fates.now in
    let number = c.loop-number.number in
    let fate : numbered_fate c.index-fates-number.result ≡ fate_in known number =
    fate_read known number c.index-fates-number.result (omega arith) c.index-fates-number.is in
    one_settled (numbered c.args.head) (fate_in known) number (bus_state c.args.self.now) (bus_state c.loop-number.self)
    (bus_state c.settle.new.self)
    c.loop-number.invariant (rw (fate, c.at.ensures) at c.settle.ensures) (omega arith)
