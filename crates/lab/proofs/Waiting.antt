-- the last entry by which something of a hart took effect
use Rattle.std.proofs.Common.{◌≡◌, ◌∙◌, ℕ, zero, suc, ◌+◌, ◌<◌, ◌≤◌, ◌==◌, ◌||◌, ◌&&◌, nat_lt, Bool, true, false, cond}
use Rattle.std.proofs.Common.{List, [], ◌∷◌, ◌++◌, Option}
use Rattle.std.proofs.Common.{Some, None, length, take, get_or, replicate, refl, ap, sym, arith, add-zero}
use Rattle.std.specs.List.{list_any}
use Rattle.std.proofs.lemmas.Bool.Decides.{nat_tests}
use Rattle.std.proofs.Math.Nat.{le_of_lt}
use Rattle.std.proofs.lemmas.List.{length-take-le, take_all, take_more}
use Rattle.std.proofs.lemmas.List.Folds.{list_any-append}
use Rattle.el_base.proofs.Laws.FreedOrder.{order_below-more}
use Rattle.el_base.specs.Freed.{count_in, order_below, order_of}
use Rattle.el_base.specs.declared.entries.Entry.{Entry}
use Rattle.el_base.specs.declared.freed.Freed.{Freed}
use Rattle.lab.specs.Waits.{acts, last_effect, last_from}

last_from-push : (h place here : ℕ) (last : Option ℕ) (entries : List Entry) (entry : Entry) →
    here ≡ place + length entries →
    last_from h place last (entries ++ entry ∷ []) ≡ cond (acts h entry) (Some here) (last_from h place last entries)
last_from-push h place here last [] entry at = ap (λ p. cond (acts h entry) (Some p) last) (sym (at ∙ add-zero place))
last_from-push h place here last (first ∷ entries) entry at =
    last_from-push h (place + 1) here (cond (acts h first) (Some place) last) entries entry (omega arith)

-- one entry more
pub last_more : (h : ℕ) (entries : List Entry) (place : ℕ) (entry : Entry) (last : Option ℕ) → place < length entries →
    entry ≡ get_or entries place entry → last ≡ last_from h 0 None (take place entries) →
    cond (acts h entry) (Some place) last ≡ last_from h 0 None (take (place + 1) entries)
last_more h entries place entry last below here is =
    let size : length (take place entries) ≡ place = length-take-le place entries (le_of_lt below) in
    ap (cond (acts h entry) (Some place)) is
    ∙ sym (last_from-push h 0 place None (take place entries) entry (omega (arith, size)))
    ∙ ap (last_from h 0 None)
    (ap (λ (e : Entry). take place entries ++ e ∷ []) here ∙ sym (take_more entries place entry below))

-- and all of them
pub last_told : (h : ℕ) (entries : List Entry) (place : ℕ) (last : Option ℕ) → length entries ≤ place →
    last ≡ last_from h 0 None (take place entries) → last ≡ last_effect h entries
unfolding last_effect
last_told h entries place last past is = is ∙ ap (last_from h 0 None) (take_all place entries past)

some_more : (n : ℕ) → nat_lt 0 (suc n) ≡ true
some_more n = grind (arith, nat_tests)

none_below : (h : ℕ) → nat_lt h 0 ≡ false
none_below h = grind (arith, nat_tests)

-- a hart is among so many of one hart where there are some and it is the one
pub among_replicate : (count hart h : ℕ) →
    list_any (λ other. other == h) (replicate count hart) ≡ ((hart == h) && nat_lt 0 count)
among_replicate zero hart h = sym (and_false (hart == h))
  where
    and_false : (b : Bool) → (b && false) ≡ false
    and_false true = refl
    and_false false = refl
among_replicate (suc count) hart h =
    by (hart == h) (among_replicate count hart h) ∙ ap (λ b. (hart == h) && b) (sym (some_more count))
  where
    by : (b : Bool) → list_any (λ other. other == h) (replicate count hart) ≡ (b && nat_lt 0 count) →
        (b || list_any (λ other. other == h) (replicate count hart)) ≡ (b && true)
    by true e = refl
    by false e = e

-- a hart is among the freed harts below a number where it is below it and something of it took effect
among_below : (n : ℕ) (freed : Freed) (h : ℕ) →
    list_any (λ other. other == h) (order_below n freed) ≡ (nat_lt h n && nat_lt 0 (count_in freed h))
among_below zero freed h = ap (λ b. b && nat_lt 0 (count_in freed h)) (sym (none_below h))
among_below (suc n) freed h =
    let test : ℕ → Bool = λ other. other == h in
    let next : suc n ≡ n + 1 = omega arith in
    ap (λ m. list_any test (order_below m freed)) next
    ∙ ap (list_any test) (order_below-more n freed)
    ∙ list_any-append test (order_below n freed) (replicate (count_in freed n) n)
    ∙ ap (λ b. b || list_any test (replicate (count_in freed n) n)) (among_below n freed h)
    ∙ ap (λ b. (nat_lt h n && nat_lt 0 (count_in freed h)) || b) (among_replicate (count_in freed n) n h)
    ∙ by (n == h) (nat_lt h n) refl refl
  where
    by : (same below : Bool) → (n == h) ≡ same → nat_lt h n ≡ below →
        ((below && nat_lt 0 (count_in freed h)) || (same && nat_lt 0 (count_in freed n)))
        ≡ (nat_lt h (suc n) && nat_lt 0 (count_in freed h))
    by true true same below = absurd (grind (arith, nat_tests))
    by true false same below =
        let is : n ≡ h = grind (arith, nat_tests) in
        let under : nat_lt h (suc n) ≡ true = grind (arith, nat_tests) in
        ap (λ m. nat_lt 0 (count_in freed m)) is ∙ ap (λ b. b && nat_lt 0 (count_in freed h)) (sym under)
    by false true same below =
        let under : nat_lt h (suc n) ≡ true = grind (arith, nat_tests) in
        or_false (nat_lt 0 (count_in freed h)) ∙ ap (λ b. b && nat_lt 0 (count_in freed h)) (sym under)
      where
        or_false : (b : Bool) → (b || false) ≡ b
        or_false true = refl
        or_false false = refl
    by false false same below =
        let over : nat_lt h (suc n) ≡ false = grind (arith, nat_tests) in
        ap (λ b. b && nat_lt 0 (count_in freed h)) (sym over)

pub among_freed : (freed : Freed) (h : ℕ) → h < 8 →
    list_any (λ other. other == h) (order_of freed) ≡ nat_lt 0 (count_in freed h)
unfolding order_of
among_freed freed h small =
    let under : nat_lt h 8 ≡ true = grind (arith, nat_tests) in
    among_below 8 freed h ∙ ap (λ b. b && nat_lt 0 (count_in freed h)) under
