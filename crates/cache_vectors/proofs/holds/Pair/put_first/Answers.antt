use Rattle.std.proofs.Common.{◌∙◌, sym}
use Rattle.write_hold.proofs.Laws.{is_lent-left}
use Rattle.cache_vectors.proofs.holds.Pair.put_first.Goals as goal

pub invariant_of-self : goal.invariant_of-self
invariant_of-self c =
    let old = c.self.inside in
    let kept = c.self.invariant in (
      c.put.ensures.lent,
      is_lent-left old.first.owner old.pool c.put.new.pool old.second c.put.ensures.others
          (λ same. kept.2 (sym same)) kept.1,
      λ same. kept.2 (sym c.put.ensures.owner ∙ same),
    )
