-- At most one request of each hart, and the look-ups in the order after each call.
use Rattle.std.proofs.Common.{◌≡◌, ℕ, ◌+◌, ◌≤◌, ◌==◌, Bool, true, false, cond, List, [], ◌∷◌, Some, None, refl, ap}
use Rattle.std.proofs.Common.{arith}
use Rattle.std.specs.List.{count_by}
use Rattle.std.proofs.lemmas.Bool.Decides.{nat_tests}
use Rattle.std.proofs.lemmas.List.Sums.{sum_by-cons, sum_by_push}
use Rattle.bus_order.specs.Order.{Request, request_of, appended, in_front_of, removed, queue_of, IsOneEach}

-- how many requests of a hart are in the order
abbrev count_of : List Request → ℕ → ℕ
count_of order hart = count_by (λ request. request.hart == hart) order

pub count_of_cons : (request : Request) (order : List Request) (hart : ℕ)
    → count_of (request ∷ order) hart ≡ cond (request.hart == hart) 1 0 + count_of order hart
count_of_cons request order hart = sum_by-cons (λ request. cond (request.hart == hart) 1 0) request order

-- a hart without a request is counted as none
pub count_of_absent : (order : List Request) (hart : ℕ) → request_of order hart ≡ None → count_of order hart ≡ 0
count_of_absent [] hart none = refl
count_of_absent (request ∷ order) hart none =
    rw count_of_cons (step (request.hart == hart) none (count_of_absent order hart))
  where
    step : (own : Bool) → cond own (Some request) (request_of order hart) ≡ None
        → (request_of order hart ≡ None → count_of order hart ≡ 0) → cond own 1 0 + count_of order hart ≡ 0
    step true none rest = absurd cc
    step false none rest = omega (arith, rest none)

pub absent_by_count : (order : List Request) (hart : ℕ) → count_of order hart ≡ 0 → request_of order hart ≡ None
absent_by_count [] hart none = refl
absent_by_count (request ∷ order) hart none =
    step (request.hart == hart) (rw count_of_cons at none) (absent_by_count order hart)
  where
    step : (own : Bool) → cond own 1 0 + count_of order hart ≡ 0 →
        (count_of order hart ≡ 0 → request_of order hart ≡ None)
        → cond own (Some request) (request_of order hart) ≡ None
    step true none rest = absurd (omega arith)
    step false none rest = rest (omega arith)

-- at most one request of each hart
pub one_each_none : IsOneEach []
one_each_none hart = omega arith

pub one_each_rest : (request : Request) (order : List Request) → IsOneEach (request ∷ order) → IsOneEach order
one_each_rest request order once hart = omega (arith, count_of_cons request order hart, once hart)

pub one_each_cons : (request : Request) (order : List Request) → IsOneEach order → request_of order request.hart ≡ None
    → IsOneEach (request ∷ order)
one_each_cons request order once none hart =
    grind (arith, nat_tests, count_of_cons request order hart, once hart, count_of_absent order request.hart none)

-- the first of a list with one request of each hart is its hart's only one
pub alone_in_front : (request : Request) (order : List Request) → IsOneEach (request ∷ order)
    → request_of order request.hart ≡ None
alone_in_front request order once =
    absent_by_count order request.hart
    (grind (arith, nat_tests, count_of_cons request order request.hart, once request.hart))

-- each call keeps it so
count_of_in_front_of : (order : List Request) (new : Request) (hart : ℕ)
    → count_of (in_front_of order new) hart ≡ count_of (new ∷ order) hart
count_of_in_front_of [] new hart = refl
count_of_in_front_of (request ∷ order) new hart =
    step (request.line == new.line) (count_of_in_front_of order new hart)
  where
    step : (same : Bool) → count_of (in_front_of order new) hart ≡ count_of (new ∷ order) hart
        → count_of (cond same (new ∷ request ∷ order) (request ∷ in_front_of order new)) hart
        ≡ count_of (new ∷ request ∷ order) hart
    step true rest = refl
    step false rest =
        omega (
          arith,
          count_of_cons request (in_front_of order new) hart,
          rest,
          count_of_cons new order hart,
          count_of_cons new (request ∷ order) hart,
          count_of_cons request order hart,
        )

pub one_each_in_front_of : (order : List Request) (new : Request) → IsOneEach order → request_of order new.hart ≡ None
    → IsOneEach (in_front_of order new)
one_each_in_front_of order new once none hart =
    omega (arith, count_of_in_front_of order new hart, one_each_cons new order once none hart)

pub one_each_appended : (order : List Request) (new : Request) → IsOneEach order → request_of order new.hart ≡ None
    → IsOneEach (appended order new)
one_each_appended order new once none hart =
    let behind = sum_by_push (λ request. cond (request.hart == hart) 1 0) order new in
    omega (arith, behind, count_of_cons new order hart, one_each_cons new order once none hart)

count_of_removed : (order : List Request) (gone hart : ℕ) → count_of (removed order gone) hart ≤ count_of order hart
count_of_removed [] gone hart = omega arith
count_of_removed (request ∷ order) gone hart =
    step (request.hart == gone) (count_of_removed order gone hart)
  where
    step : (own : Bool) → count_of (removed order gone) hart ≤ count_of order hart
        → count_of (cond own (removed order gone) (request ∷ removed order gone)) hart ≤ count_of (request ∷ order) hart
    step true rest = omega (arith, rest, count_of_cons request order hart)
    step false rest =
        omega (arith, rest, count_of_cons request order hart, count_of_cons request (removed order gone) hart)

pub one_each_removed : (order : List Request) (gone : ℕ) → IsOneEach order → IsOneEach (removed order gone)
one_each_removed order gone once hart = omega (arith, count_of_removed order gone hart, once hart)

-- where the hart has no request nothing is removed
pub removed_absent : (order : List Request) (hart : ℕ) → request_of order hart ≡ None → removed order hart ≡ order
removed_absent [] hart none = refl
removed_absent (request ∷ order) hart none = step (request.hart == hart) none (removed_absent order hart)
  where
    step : (own : Bool) → cond own (Some request) (request_of order hart) ≡ None
        → (request_of order hart ≡ None → removed order hart ≡ order)
        → cond own (removed order hart) (request ∷ removed order hart) ≡ request ∷ order
    step true none rest = absurd cc
    step false none rest = ap (λ l. request ∷ l) (rest none)

-- the requests of one line
pub count_of_queue_of : (order : List Request) (line hart : ℕ) →
    count_of (queue_of order line) hart ≤ count_of order hart
count_of_queue_of [] line hart = omega arith
count_of_queue_of (request ∷ order) line hart =
    step (request.line == line) (count_of_queue_of order line hart)
  where
    step : (on_line : Bool) → count_of (queue_of order line) hart ≤ count_of order hart
        → count_of (cond on_line (request ∷ queue_of order line) (queue_of order line)) hart
        ≤ count_of (request ∷ order) hart
    step true rest =
        omega (arith, rest, count_of_cons request order hart, count_of_cons request (queue_of order line) hart)
    step false rest = omega (arith, rest, count_of_cons request order hart)

pub one_each_queue_of : (order : List Request) (line : ℕ) → IsOneEach order → IsOneEach (queue_of order line)
one_each_queue_of order line once hart = omega (arith, count_of_queue_of order line hart, once hart)
