use Rattle.line_lanes.specs.Merged.{merged_byte}
use Rattle.line_lanes.proofs.Puts.{bytes_fit}
use Rattle.line_lanes.proofs.line.merged_word.Goals as goal

pub returns : goal.returns
returns c =
    let byte = merged_byte c.args.line.now c.args.over.now c.args.mask in
    record {
      word = c.word_of.ensures byte c.args.offset c.merged_half.ensures;
      bytes = bytes_fit byte c.merged_half.result c.args.offset c.merged_half.ensures;
    }
