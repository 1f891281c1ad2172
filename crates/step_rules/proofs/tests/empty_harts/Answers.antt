-- the pool lends the first hart's cache
use Rattle.std.proofs.Common.{◌≡◌, ◌*◌, ◌<◌, ℕ, zero, suc, [], ◌∷◌, arith, length, refl, subst, sym}
use Rattle.std.specs.Prelude.{slice_index}
use Rattle.coherence.proofs.Laws.Offered.{offers-made}
use Rattle.coherence.specs.Lent.{Offers}
use Rattle.snoop.specs.Shows.{bus_state}
use Rattle.step_rules.proofs.tests.empty_harts.Goals as goal

two_each : (h : ℕ) → h < 2 → slice_index (2 ∷ 2 ∷ []) h ≡ 2
two_each zero below = refl
two_each (suc zero) below = refl
two_each (suc (suc h)) below = absurd (omega (arith, below))

pub invariant_of-result : goal.invariant_of-result
invariant_of-result c =
    let pool = c.in_ok-pool.pool in
    let bus = c.in_ok-bus.bus in
    let config = c.config-config.result in
    let is = c.config-config.ensures in
    let offers : Offers pool 2 2 = offers-made pool (2 ∷ 2 ∷ []) 2 2 c.in_ok-pool.ensures two_each in
    let slots : config.sets * config.ways ≡ 2 = λ k. is.1 k * is.2 k in
    let told = c.in_ok-bus.ensures.told pool
    (subst (λ n. Offers pool n (config.sets * config.ways)) (sym is.0) (subst (Offers pool 2) (sym slots) offers)) in
    let there : 0 < length (bus_state bus).copies.caches =
    omega (arith, c.in_ok-bus.ensures.ready.each, c.harts-2.ensures, c.if-harts-ne2.false) in
    record { there = there; lent = told.lent.each 0 there }
