use Rattle.std.proofs.Common.{◌≡◌, ◌<◌, ◌*◌, ℕ, zero, suc, [], ◌∷◌, arith}
use Rattle.std.specs.Prelude.{slice_index}
use Rattle.coherence.proofs.Laws.Offered.{offers-made}
use Rattle.cache_vectors.proofs.hierarchies.made.Goals as goal

two_quotas : (a b ways h : ℕ) → a ≡ ways → b ≡ ways → h < 2 → slice_index (a ∷ b ∷ []) h ≡ 1 * ways
two_quotas a b ways zero first second within = omega (arith, first)
two_quotas a b ways (suc zero) first second within = omega (arith, second)
two_quotas a b ways (suc (suc h)) first second within = absurd (omega (arith, within))

pub invariant_of-result : goal.invariant_of-result
invariant_of-result c = record {
  lent =
      c.in_ok-hierarchy.ensures.lent c.in_ok-pool.pool
      (offers-made c.in_ok-pool.pool (c.into-2.result ∷ c.into-3.result ∷ []) 2 (1 * c.args.ways) c.in_ok-pool.ensures
      (λ h within. two_quotas c.into-2.result c.into-3.result c.args.ways h c.into-2.ensures c.into-3.ensures within));
}
