-- one cache more
use Rattle.std.proofs.Common.{◌∙◌, ap, arith, inl, inr, subst}
use Rattle.std.proofs.lemmas.Bool.{cases_eq}
use Rattle.residency.specs.WellFormed.{IsWellFormed}
use Rattle.cache_sets.specs.Slotted.{Slotted}
use Rattle.coherence.specs.Lent.{slotted_at}
use Rattle.snoop.proofs.Lent.{no_pool}
use Rattle.snoop.proofs.tests.well_formed.Goals as goal

pub loop-number-preserved : goal.loop-number-preserved
loop-number-preserved c = λ h under.
    let caches = c.args.hierarchy.now.caches.items in
    let number = c.loop-number.number in
    let here : IsWellFormed (slotted_at caches number).ways (slotted_at caches number).residency =
    subst (λ (cache : Slotted). IsWellFormed cache.ways cache.residency)
    (c.cache.ensures ∙ ap (slotted_at caches) c.at.ensures)
    (c.room.ensures.cached no_pool).well_formed in
    elim (cases_eq h number) [
      | inl same ↦ rw same here
      | inr before ↦ c.loop-number.invariant h (omega (arith, before, under))
    ]
