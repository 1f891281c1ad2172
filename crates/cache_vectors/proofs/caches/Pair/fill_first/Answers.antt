use Rattle.std.proofs.Common.{◌∙◌, sym}
use Rattle.cache_sets.proofs.Laws.{is_lent-left}
use Rattle.cache_vectors.proofs.caches.Pair.fill_first.Goals as goal

pub invariant_of-self : goal.invariant_of-self
invariant_of-self c =
    let old = c.self.inside in
    let kept = c.self.invariant in (
      c.fill-gone.ensures.lent,
      is_lent-left old.first.owner old.pool c.fill-gone.new.pool old.second c.fill-gone.ensures.others
          (λ same. kept.2 (sym same)) kept.1,
      λ same. kept.2 (sym c.fill-gone.ensures.owner ∙ same),
    )
