use Rattle.std.proofs.Common.{◌==◌, if◌then◌else◌, ◌∙◌, arith, slice_index}
use Rattle.line_lanes.proofs.Puts.{bit_after, byte_read}
use Rattle.line_lanes.proofs.line.merged_half.Goals as goal

pub returns : goal.returns
returns c k less =
    let offset = c.args.offset in
    let under =
    byte_read (slice_index c.args.line.now) offset k c.into.result (c.into.ensures ∙ c.word_at.ensures.word)
    c.word_at.ensures.bytes less in
    let over =
    byte_read (slice_index c.args.over.now) offset k c.into-2.result (c.into-2.ensures ∙ c.word_at-2.ensures.word)
    c.word_at-2.ensures.bytes less in
    c.merge_lane.ensures k (omega arith) ∙ (λ i. if bit_after c.args.mask offset k i == 1 then over i else under i)
