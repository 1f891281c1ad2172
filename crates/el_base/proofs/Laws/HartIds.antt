-- Harts as numbers.
use Rattle.std.specs.Coded.{le_prop}
use Rattle.std.proofs.Common.{◌≡◌, ℕ, ◌<◌, ap, subst}
use Rattle.el_base.specs.HartId.{hart_id}
use Rattle.el_base.specs.declared.hart_id.HartId.{HartId}
use Rattle.el_base.proofs.Belows.{below_inside}

-- a hart is its number: that it is below 8 has one proof
pub same_hart : (a b : HartId) → a.number ≡ b.number → a ≡ b
same_hart a b same =
    let P : ℕ → Type 0 = λ n. (small : n < 8) → a ≡ record { number = n; small = small } in
    subst P same
    (λ small. ap (λ (fact : a.number < 8). record { number = a.number; small = fact }) (le_prop a.small small)) b.small

-- a number below 8 comes back
pub hart_id-number : (n : ℕ) → n < 8 → (hart_id n).number ≡ n
hart_id-number n low = below_inside 8 n low

-- a hart comes back
pub hart_id-of_hart : (hart : HartId) → hart_id hart.number ≡ hart
hart_id-of_hart hart = same_hart (hart_id hart.number) hart (hart_id-number hart.number hart.small)
