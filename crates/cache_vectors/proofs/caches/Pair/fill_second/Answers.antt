use Rattle.std.proofs.Common.{◌∙◌}
use Rattle.cache_sets.proofs.Laws.{is_lent-left}
use Rattle.cache_vectors.proofs.caches.Pair.fill_second.Goals as goal

pub invariant_of-self : goal.invariant_of-self
invariant_of-self c =
    let old = c.self.inside in
    let kept = c.self.invariant in (
      is_lent-left old.second.owner old.pool c.fill-gone.new.pool old.first c.fill-gone.ensures.others kept.2 kept.0,
      c.fill-gone.ensures.lent,
      λ same. kept.2 (same ∙ c.fill-gone.ensures.owner),
    )
