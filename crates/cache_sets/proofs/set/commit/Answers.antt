use Rattle.std.proofs.Common.{ap, sym, ◌∙◌}
use Rattle.std.specs.Prelude.{slice_set}
use Rattle.std.proofs.lemmas.List.Edits.{map_over_more}
use Rattle.cache_sets.specs.Kept.{committed_way, with_way}
use Rattle.cache_sets.proofs.set.commit.Goals as goal

pub loop-line-preserved : goal.loop-line-preserved
loop-line-preserved c =
    let line = c.line-item.result in
    ap (λ l. slice_set c.loop-line.lines c.loop-line.line-index l)
    (c.commit_bits.ensures ∙ ap (with_way committed_way) (sym c.line-item.is))
    ∙ map_over_more (with_way committed_way) c.args.lines.now c.loop-line.lines c.loop-line.line-index line
    c.loop-line-test.true
    c.loop-line.invariant c.line-item.is
