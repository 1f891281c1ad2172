use Rattle.line_lanes.proofs.Puts.{word_is}
use Rattle.line_lanes.proofs.line.word_of.Goals as goal

pub returns : goal.returns
returns c = λ byte place are.
    word_is c.args.lane c.from_le_bytes.result place c.to_le_bytes-bytes.result byte c.from_le_bytes.ensures
    c.to_le_bytes-bytes.ensures are
