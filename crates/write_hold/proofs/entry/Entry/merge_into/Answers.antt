use Rattle.std.proofs.Common.{ap, ◌∙◌}
use Rattle.line_lanes.specs.Merged.{merged_byte}
use Rattle.write_hold.proofs.Calls.{merged-over}
use Rattle.write_hold.proofs.entry.Entry.merge_into.Goals as goal

pub returns : goal.returns
returns c = λ place within.
    c.merge.ensures place within
    ∙ ap (λ b. merged_byte c.args.target.now b c.args.self.now.mask place) c.bytes.ensures
    ∙ merged-over c.args.pool.now c.args.self.now c.args.target.now place
