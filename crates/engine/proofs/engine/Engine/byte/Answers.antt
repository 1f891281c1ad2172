-- the bus tells the bytes of lines
use Rattle.engine.proofs.Bytes.{told_byte}
use Rattle.engine.proofs.engine.Engine.byte.Goals as goal
use Rattle.engine.specs.Parts.{parts}

pub byte-requires-clause-told : goal.byte-requires-clause-told
byte-requires-clause-told c = record { bytes = _; tells = c.requires.is_in.told }

pub returns-clause-committed : goal.returns-clause-committed
returns-clause-committed c state is =
    told_byte (parts c.args.self.now).bus.copies state.committed c.args.address c.byte.result is.shows.memory
    c.byte.ensures.none_exactly_outside
    (c.byte.ensures.committed _ is.told)
