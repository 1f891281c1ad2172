-- all eight were read
use Rattle.std.proofs.Common.{arith}
use Rattle.trace_file.proofs.Nibbles.{losers_are}
use Rattle.trace_file.proofs.outcome_fields.losers_in.Goals as goal

pub returns : goal.returns
returns c =
    losers_are c.loop-hart.losers c.args.bytes.now c.requires.harts
    (λ h low. c.loop-hart.invariant.read h (omega (arith, c.loop-hart-test.false)))
