-- a machine stands before its first event
use Rattle.engine.specs.Parts.{parts}
use Rattle.machine.proofs.GoesOn.{first}
use Rattle.machine.proofs.machine.Machine.begin.Goals as goal

pub invariant_of-result : goal.invariant_of-result
invariant_of-result c =
    first c.args.image c.args.config (parts c.args.engine) c.args.history.entries c.args.history.places
    c.requires.program c.requires.bytes
    c.requires.in_range c.requires.one_hart_each c.requires.engine c.requires.history
