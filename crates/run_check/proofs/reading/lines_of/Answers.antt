-- one item more
use Rattle.std.proofs.Common.{zero-add}
use Rattle.std.proofs.lemmas.List.FromFn.{map-range_with_len_more}
use Rattle.run_check.specs.Faults.{patch_at}
use Rattle.run_check.proofs.reading.lines_of.Goals as goal

pub loop-index-preserved : goal.loop-index-preserved
loop-index-preserved c =
    rw (map-range_with_len_more (patch_at c.args.file.now c.args.lines) 0 c.loop-index.index c.loop-index.index
    (zero-add c.loop-index.index))
    (rw (← c.loop-index.invariant, ← c.patch_at.ensures) c.in_ok-push.ensures.items)
