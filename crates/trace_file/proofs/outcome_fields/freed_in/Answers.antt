-- all eight were read
use Rattle.std.proofs.Common.{arith}
use Rattle.trace_file.proofs.Nibbles.{freed_are}
use Rattle.trace_file.proofs.outcome_fields.freed_in.Goals as goal

pub returns : goal.returns
returns c =
    freed_are c.loop-hart.freed c.args.bytes.now c.requires.counts
    (λ h low. c.loop-hart.invariant.read h (omega (arith, c.loop-hart-test.false)))
