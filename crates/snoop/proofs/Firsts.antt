-- the first of all harts of which a test holds
use Rattle.std.proofs.Common.{◌≡◌, ◌∙◌, ℕ, zero, suc, ◌+◌, ◌<◌, ◌≤◌, Bool, true, false, List, [], ◌∷◌, drop, length}
use Rattle.std.proofs.Common.{Some, None}
use Rattle.std.proofs.Common.{refl, ap, arith, if◌then◌else◌}
use Rattle.bus_order.specs.Order.{Request}
use Rattle.el_base.specs.declared.config.Mode.TheVariants.{Plain}
use Rattle.el_model.specs.Conflicts.{conflicts, first_such}
use Rattle.el_model.specs.State.{Hart, ModelState, count_up, hart_of, numbers_of}
use Rattle.el_model.proofs.Laws.Conflicts.{none_first}
use Rattle.snoop.proofs.Facing.{plain_unmet}
use Rattle.snoop.specs.Obstacles.{first_conflict_of}
use Rattle.snoop.specs.Shows.{IsReady, BusState, Shows}

-- of the harts past the last one there is none
pub drop_all : (from n : ℕ) (harts : List Hart) → length harts ≤ n → drop n (count_up from harts) ≡ []
drop_all from zero [] past = refl
drop_all from (suc n) [] past = refl
drop_all from zero (hart ∷ harts) past = absurd (omega arith)
drop_all from (suc n) (hart ∷ harts) past = drop_all (suc from) n harts (omega (arith, past))

-- of the harts from a number on, the first is the one of this number
pub drop_one : (from n number : ℕ) (harts : List Hart) → n < length harts → number ≡ from + n →
    drop n (count_up from harts) ≡ number ∷ drop (suc n) (count_up from harts)
drop_one from n number [] below is = absurd (omega arith)
drop_one from zero number (hart ∷ harts) below is = let same : number ≡ from = omega (arith, is) in rw same refl
drop_one from (suc n) number (hart ∷ harts) below is =
    drop_one (suc from) n number harts (omega (arith, below)) (omega (arith, is))

pub first_past : (test : ℕ → Bool) (harts : List Hart) (n : ℕ) → n ≡ length harts →
    first_such test (drop n (count_up 0 harts)) ≡ None
first_past test harts n past = ap (first_such test) (drop_all 0 n harts (omega (arith, past)))

pub one_earlier : (test : ℕ → Bool) (harts : List Hart) (n later : ℕ) → later ≡ n + 1 → later ≤ length harts →
    first_such test (drop n (count_up 0 harts))
    ≡ (if test n then Some n else first_such test (drop later (count_up 0 harts)))
one_earlier test harts n later next below =
    ap (first_such test) (drop_one 0 n n harts (omega (arith, next, below)) (omega arith))
    ∙ ap (λ k. if test n then Some n else first_such test (drop k (count_up 0 harts)))
    (let e : suc n ≡ later = omega (arith, next) in e)

-- where none below a number passed the test, the first of all is this one, if it passes, and else
-- none below the next one has passed
module _ (test : ℕ → Bool) (harts : List Hart) (n : ℕ) (inside : n < length harts)
    (none_below : first_such test (count_up 0 harts) ≡ first_such test (drop n (count_up 0 harts))) where
  by_test : first_such test (count_up 0 harts)
      ≡ (if test n then Some n else first_such test (drop (n + 1) (count_up 0 harts)))
  by_test = none_below ∙ one_earlier test harts n (n + 1) refl (omega (arith, inside))

  pub first_here : test n ≡ true → first_such test (count_up 0 harts) ≡ Some n
  first_here passes = by_test ∙ ap (λ t. if t then Some n else first_such test (drop (n + 1) (count_up 0 harts))) passes

  pub first_later : test n ≡ false →
      first_such test (count_up 0 harts) ≡ first_such test (drop (n + 1) (count_up 0 harts))
  first_later fails = by_test ∙ ap (λ t. if t then Some n else first_such test (drop (n + 1) (count_up 0 harts))) fails

-- in the plain mode nobody's section conflicts with a request
pub plain_first : (bus : BusState) (state : ModelState) (request : Request) → IsReady bus → Shows bus state →
    bus.mode ≡ Plain → first_conflict_of state request ≡ None
plain_first bus state request ready shows plain =
    none_first (λ h. conflicts request h (hart_of state h)) (numbers_of state)
    (λ h. plain_unmet bus state request h ready shows plain)
