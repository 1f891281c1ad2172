-- What views come to, added up, and how often a place is in a list.
use Rattle.std.proofs.Common.{◌≡◌, ◌≢◌, ℕ, zero, suc, ◌+◌, ◌≤◌, List, [], ◌∷◌, ◌++◌, set, sym, ap, refl, arith}
use Rattle.std.proofs.lemmas.Bool.Decides.{nat_tests}
use mathlib.Core.Option.{some, some-injective, some-ne-none}
use lib.ListN.{get_elem?}
use Rattle.bus_lock.specs.declared.view.View.{View}
use Rattle.bus_lock.specs.Passes.{below, times}
use Rattle.bus_lock.specs.Rule.{total}

pub total_set : (f : View → ℕ) (views : List View) (seat : ℕ) (v w : View) → get_elem? views seat ≡ some v →
    total f (set views seat w) + f v ≡ total f views + f w
total_set f [] seat v w at = absurd (some-ne-none v (sym at))
total_set f (u ∷ views) zero v w at = let e : u ≡ v = some-injective u v at in let g = ap f e in omega (arith, g)
total_set f (u ∷ views) (suc seat) v w at = let rest = total_set f views seat v w at in omega (arith, rest)

pub total_last : (f : View → ℕ) (views : List View) (w : View) → total f (views ++ w ∷ []) ≡ total f views + f w
total_last f [] w = omega arith
total_last f (u ∷ views) w = let rest = total_last f views w in omega (arith, rest)

pub total_holds : (f : View → ℕ) (views : List View) (seat : ℕ) (v : View) → get_elem? views seat ≡ some v →
    f v ≤ total f views
total_holds f [] seat v at = absurd (some-ne-none v (sym at))
total_holds f (u ∷ views) zero v at = let e : u ≡ v = some-injective u v at in let g = ap f e in omega (arith, g)
total_holds f (u ∷ views) (suc seat) v at = let rest = total_holds f views seat v at in omega (arith, rest)

total_none : (f : View → ℕ) (views : List View) → ((i : ℕ) (w : View) → get_elem? views i ≡ some w → f w ≡ 0) →
    total f views ≡ 0
total_none f [] none = refl
total_none f (u ∷ views) none =
    let rest = total_none f views (λ i w at. none (suc i) w at) in let here = none 0 u refl in omega (arith, rest, here)

-- where all others have nothing, the sum is what one has
pub total_alone : (f : View → ℕ) (views : List View) (seat : ℕ) (v : View) → get_elem? views seat ≡ some v →
    ((i : ℕ) (w : View) → get_elem? views i ≡ some w → i ≢ seat → f w ≡ 0) → total f views ≡ f v
total_alone f [] seat v at none = absurd (some-ne-none v (sym at))
total_alone f (u ∷ views) zero v at none =
    let e : u ≡ v = some-injective u v at in let g = ap f e in
    let rest = total_none f views (λ i w there. none (suc i) w there (λ e. omega arith)) in omega (arith, g, rest)
total_alone f (u ∷ views) (suc seat) v at none =
    let rest = total_alone f views seat v at (λ i w there other. none (suc i) w there (λ e. other (omega arith))) in
    let here = none 0 u refl (λ e. omega arith) in omega (arith, rest, here)

pub times_append : (place : ℕ) (xs ys : List ℕ) → times place (xs ++ ys) ≡ times place xs + times place ys
times_append place [] ys = omega arith
times_append place (x ∷ xs) ys = let rest = times_append place xs ys in omega (arith, rest)

-- the place behind all others
pub below_one_more : (place n : ℕ) → times place (n ∷ []) + below place n ≡ below place (n + 1)
below_one_more place n = grind (arith, nat_tests)

pub below_one : (place n : ℕ) → below place n ≤ 1
below_one place n = grind (arith, nat_tests)
