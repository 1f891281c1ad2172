-- one line more
use Rattle.std.proofs.Common.{zero-add}
use Rattle.std.proofs.lemmas.List.FromFn.{map-range_with_len_more}
use Rattle.coherence.specs.Beginning.{line_in}
use Rattle.coherence.proofs.beginning.lines_of.Goals as goal

pub loop-place-preserved : goal.loop-place-preserved
loop-place-preserved c =
    rw (map-range_with_len_more (line_in c.args.bytes.now) 0 c.loop-place.place c.loop-place.place
    (zero-add c.loop-place.place))
    (rw (← c.loop-place.invariant, ← c.line_at-line.ensures) c.in_ok-push.ensures.items)
