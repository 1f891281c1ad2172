use Rattle.std.proofs.Common.{◌∙◌}
use Rattle.write_hold.proofs.Laws.{is_lent-left}
use Rattle.cache_vectors.proofs.holds.Pair.put_second.Goals as goal

pub invariant_of-self : goal.invariant_of-self
invariant_of-self c =
    let old = c.self.inside in
    let kept = c.self.invariant in (
      is_lent-left old.second.owner old.pool c.put.new.pool old.first c.put.ensures.others kept.2 kept.0,
      c.put.ensures.lent,
      λ same. kept.2 (same ∙ c.put.ensures.owner),
    )
