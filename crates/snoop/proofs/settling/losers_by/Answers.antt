-- one hart more, and all of them
use Rattle.std.proofs.Common.{◌≡◌, arith}
use Rattle.snoop.proofs.LosersBelow.{all_losers, fate_read, one_loser_more}
use Rattle.snoop.proofs.settling.losers_by.Goals as goal
use Rattle.snoop.specs.Fates.{fate_in, numbered_fate}

pub loop-number-preserved : goal.loop-number-preserved
loop-number-preserved c =
    let known = c.args.fates.now in
    let number = c.loop-number.number in
    let fate : numbered_fate c.index-fates-number.result ≡ fate_in known number =
    fate_read known number c.index-fates-number.result (omega arith) c.index-fates-number.is in
    one_loser_more (fate_in known) number c.loop-number.losers c.with_loser-losers.result c.loop-number.invariant
    (rw (fate, c.at.ensures) at c.with_loser-losers.ensures)

pub returns : goal.returns
returns c =
    all_losers c.args.fates.now c.loop-number.number c.loop-number.losers (omega arith) c.requires
    c.loop-number.invariant
