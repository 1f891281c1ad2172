-- A rule on items says the same of two lists that have the same items there.
use Rattle.std.proofs.Common.{◌≡◌, ℕ, zero, suc, ◌-◌, ◌<◌, refl, arith, false}
use Rattle.std.proofs.lemmas.Bool.Decides.{nat_tests}
use Rattle.run_check.specs.Rules.{count_wrong, hart_wrong, line_wrong, line_limit, steps_before}

pub same_hart_rule : (harts : ℕ) (f g : ℕ → ℕ) (index : ℕ) → f index ≡ g index → f (index - 1) ≡ g (index - 1) →
    hart_wrong harts f index ≡ hart_wrong harts g index
same_hart_rule harts f g index here before = rw (here, before) refl

pub same_line_rule : (f g : ℕ → ℕ) (index : ℕ) → f index ≡ g index → f (index - 1) ≡ g (index - 1) →
    line_wrong f index ≡ line_wrong g index
same_line_rule f g index here before = rw (here, before) refl

pub same_steps : (f g : ℕ → ℕ) (index : ℕ) → ((k : ℕ) → k < index → f k ≡ g k) →
    steps_before f index ≡ steps_before g index
same_steps f g zero each = refl
same_steps f g (suc index) each =
    let before = same_steps f g index (λ k within. each k (omega arith)) in
    let last = each index (omega arith) in
    rw (before, last) refl

pub same_count_rule : (f g : ℕ → ℕ) (index : ℕ) → ((k : ℕ) → k < suc index → f k ≡ g k) →
    count_wrong f index ≡ count_wrong g index
same_count_rule f g index each =
    let before = same_steps f g index (λ k within. each k (omega arith)) in
    let last = each index (omega arith) in
    rw (before, last) refl

-- what the rules say
pub hart_below : (harts : ℕ) (f : ℕ → ℕ) (index : ℕ) → hart_wrong harts f index ≡ false → f index < harts
hart_below harts f index right = grind (arith, nat_tests)

pub line_below : (f : ℕ → ℕ) (index : ℕ) → line_wrong f index ≡ false → f index < line_limit
line_below f index right = grind (arith, nat_tests)
