-- each is a byte by its type
use Rattle.std.proofs.Common.{arith}
use Rattle.machine.proofs.machine.are_bytes.Goals as goal

pub returns : goal.returns
returns c = λ place. omega (arith, c.type_inv.bytes place)
