-- The list that the code keeps has at most one request of each hart after each call.
use Rattle.std.proofs.Common.{◌≡◌, ◌≤◌, ◌<◌, ◌==◌, ◌+◌, ℕ, zero, suc, cond, List, [], ◌∷◌, ◌++◌, length, map, None, ap}
use Rattle.std.proofs.Common.{arith}
use Rattle.std.specs.List.{count_by, insert, remove}
use Rattle.std.proofs.lemmas.List.Sums.{sum_by-cons, sum_by_push, sum_by-insert}
use Rattle.el_base.proofs.Laws.ListLaws.{length_by_codes, count_of_map}
use Rattle.bus_order.specs.declared.request.Request as requests
use Rattle.bus_order.specs.Order.{numbered, request_of, IsOneEach}
use Rattle.bus_order.proofs.Laws.Orders.{one_each_cons, count_of_cons}

-- how many requests of a hart the list has
abbrev count : List requests.Request → ℕ → ℕ
count items hart = count_by (λ request. request.hart.number == hart) items

-- one request more: at most one of each hart wherever it goes
one_more : (items : List requests.Request) (request : requests.Request) → IsOneEach (map numbered items)
    → request_of (map numbered items) request.hart.number ≡ None
    → (hart : ℕ) → count items hart + cond (request.hart.number == hart) 1 0 ≤ 1
one_more items request once none hart =
    omega (
      arith,
      one_each_cons (numbered request) (map numbered items) once none hart,
      count_of_cons (numbered request) (map numbered items) hart,
      count_of_map numbered (λ one. one.hart == hart) items,
    )

pub room_for_one : (items : List requests.Request) (request : requests.Request) → IsOneEach (map numbered items)
    → request_of (map numbered items) request.hart.number ≡ None → length items < 8
room_for_one items request once none =
    let code : requests.Request → ℕ = λ request. request.hart.number in
    let joined : IsOneEach (map numbered (request ∷ items)) =
    one_each_cons (numbered request) (map numbered items) once none in
    let least : suc (length items) ≤ 8 =
    length_by_codes code 8 (request ∷ items) (λ one. one.hart.small)
    (λ hart. omega (arith, count_of_map numbered (λ one. one.hart == hart) (request ∷ items), joined hart))
    in
    omega arith

pub one_each_pushed : (items new : List requests.Request) (request : requests.Request) → new ≡ items ++ request ∷ []
    → IsOneEach (map numbered items) → request_of (map numbered items) request.hart.number ≡ None →
    IsOneEach (map numbered new)
one_each_pushed items new request is once none hart =
    omega (
      arith,
      count_of_map numbered (λ one. one.hart == hart) new,
      ap (λ l. count l hart) is,
      sum_by_push (λ one. cond (one.hart.number == hart) 1 0) items request,
      one_more items request once none hart,
    )

pub one_each_inserted : (items new : List requests.Request) (place : ℕ) (request : requests.Request)
    → new ≡ insert items place request
    → IsOneEach (map numbered items) → request_of (map numbered items) request.hart.number ≡ None →
    IsOneEach (map numbered new)
one_each_inserted items new place request is once none hart =
    omega (
      arith,
      count_of_map numbered (λ one. one.hart == hart) new,
      ap (λ l. count l hart) is,
      sum_by-insert (λ one. cond (one.hart.number == hart) 1 0) items place request,
      one_more items request once none hart,
    )

-- without one of them
count_of_remove : (items : List requests.Request) (place hart : ℕ) → count (remove items place) hart ≤ count items hart
count_of_remove [] zero hart = omega arith
count_of_remove [] (suc place) hart = omega arith
count_of_remove (request ∷ items) zero hart =
    omega (arith, sum_by-cons (λ one. cond (one.hart.number == hart) 1 0) request items)
count_of_remove (request ∷ items) (suc place) hart =
    omega (
      arith,
      count_of_remove items place hart,
      sum_by-cons (λ one. cond (one.hart.number == hart) 1 0) request items,
      sum_by-cons (λ one. cond (one.hart.number == hart) 1 0) request (remove items place),
    )

pub one_each_taken : (items new : List requests.Request) (place : ℕ) → new ≡ remove items place
    → IsOneEach (map numbered items) → IsOneEach (map numbered new)
one_each_taken items new place is once hart =
    omega (
      arith,
      count_of_map numbered (λ one. one.hart == hart) new,
      count_of_map numbered (λ one. one.hart == hart) items,
      ap (λ l. count l hart) is,
      count_of_remove items place hart,
      once hart,
    )
