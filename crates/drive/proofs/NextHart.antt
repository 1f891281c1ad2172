-- the hart after another one of so many
use Rattle.std.proofs.Common.{◌≡◌, ℕ, ◌+◌, ◌%◌, ◌<◌, ◌≤◌, ◌∙◌, ap, sym, arith}
use Rattle.std.proofs.Math.Nat.{mod-add-mod, mod-eq_of_lt, mod_self}
use Rattle.std.proofs.lemmas.Nat.{mod_below}

-- after one that is not the last
pub next_of_harts : (turns harts : ℕ) → turns % harts + 1 < harts → (turns + 1) % harts ≡ turns % harts + 1
next_of_harts turns harts within = sym (mod-add-mod turns harts 1) ∙ mod-eq_of_lt within

-- after the last one
pub first_of_harts : (turns harts : ℕ) → 1 ≤ harts → harts ≤ turns % harts + 1 → (turns + 1) % harts ≡ 0
first_of_harts turns harts some last =
    let whole : turns % harts + 1 ≡ harts = omega (arith, mod_below turns harts some) in
    sym (mod-add-mod turns harts 1) ∙ (ap (λ n. n % harts) whole ∙ mod_self harts)
