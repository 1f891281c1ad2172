-- one cache more
use Rattle.std.proofs.Common.{◌∙◌, ◌++◌, ◌∷◌, [], ap, sym, zero-add}
use Rattle.std.proofs.lemmas.List.FromFn.{map-range_with_len_more}
use Rattle.cache_sets.specs.Slotted.{empty_slotted}
use Rattle.coherence.proofs.beginning.empty_caches.Goals as goal

pub loop-hart-preserved : goal.loop-hart-preserved
loop-hart-preserved c =
    let config = c.args.config.now in
    let hart = c.loop-hart.hart in
    c.in_ok-push.ensures.items
    ∙ ap (λ cache. c.loop-hart.caches.items ++ cache ∷ [])
    (c.in_ok-make.ensures ∙ ap (empty_slotted config.ways config.sets) c.into.ensures)
    ∙ ap (λ caches. caches ++ empty_slotted config.ways config.sets hart ∷ []) c.loop-hart.invariant
    ∙ sym (map-range_with_len_more (λ h. empty_slotted config.ways config.sets h) 0 hart hart (zero-add hart))
