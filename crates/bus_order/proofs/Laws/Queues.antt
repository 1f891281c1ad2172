-- The requests of a line after each call, and which requests the look-ups find.
use Rattle.std.proofs.Common.{◌≡◌, ◌≢◌, ℕ, ◌==◌, not, Bool, true, false, cond, List, [], ◌∷◌, ◌++◌, Option, Some, None}
use Rattle.std.proofs.Common.{refl, ap, sym, ◌∙◌}
use Rattle.std.proofs.Common.{append-nil, reverse, subst, arith}
use Rattle.std.specs.List.{find, filter}
use Rattle.std.specs.Option.{option_or}
use Rattle.std.proofs.lemmas.List.Elements.{filter-append}
use Rattle.el_base.proofs.Laws.ListLaws.{find_of_filter_kept, filter_of_filter, find_passes}
use Rattle.el_base.proofs.Laws.Tests.{number_of_test, other_test, own_test}
use Rattle.bus_order.specs.Order.{Request, first_of, tail_of, request_of, appended, in_front_of, removed, queue_of}
use Rattle.bus_order.specs.Order.{IsOneEach}
use Rattle.bus_order.proofs.Laws.LookUps.{or_nothing}
use Rattle.bus_order.proofs.Laws.Orders.{count_of_absent, count_of_queue_of, absent_by_count, one_each_rest}
use Rattle.bus_order.proofs.Laws.Orders.{one_each_queue_of, alone_in_front, removed_absent}
use Rattle.bus_order.proofs.Words.{first_of_find, tail_of_find, request_of_find, queue_of_filter, removed_filter}

-- a hart's request that stands in front, or behind another hart's
found_in_front : (request : Request) (order : List Request) (found : Request) → request ≡ found
    → request_of (request ∷ order) found.hart ≡ Some found
found_in_front request order found same =
    ap (λ test. cond test (Some request) (request_of order found.hart))
    (ap (λ r. request.hart == r.hart) (sym same) ∙ own_test request.hart)
    ∙ ap (λ r. Some r) same

found_behind : (request : Request) (order : List Request) (found : Request) → request_of order request.hart ≡ None
    → request_of order found.hart ≡ Some found → request_of (request ∷ order) found.hart ≡ Some found
found_behind request order found alone is =
    ap (λ test. cond test (Some request) (request_of order found.hart))
    (other_test request.hart found.hart (λ same. nothing_is_something (sym alone ∙ ap (request_of order) same ∙ is)))
    ∙ is
  where
    nothing_is_something : None ≡ Some found → ⊥
    nothing_is_something never = cc

-- the requests of a line after each call
pub queue_of_appended_own : (order : List Request) (new : Request)
    → queue_of (appended order new) new.line ≡ queue_of order new.line ++ new ∷ []
queue_of_appended_own order new =
    let test : Request → Bool = λ request. request.line == new.line in
    queue_of_filter (appended order new) new.line
    ∙ filter-append test order (new ∷ [])
    ∙ (λ i. sym (queue_of_filter order new.line) i ++ cond (own_test new.line i) (new ∷ []) [])

pub queue_of_appended_other : (order : List Request) (new : Request) (line : ℕ) → new.line ≢ line
    → queue_of (appended order new) line ≡ queue_of order line
queue_of_appended_other order new line other =
    let test : Request → Bool = λ request. request.line == line in
    queue_of_filter (appended order new) line
    ∙ filter-append test order (new ∷ [])
    ∙ (λ i. sym (queue_of_filter order line) i ++ cond (other_test new.line line other i) (new ∷ []) [])
    ∙ append-nil (queue_of order line)

pub queue_of_in_front_of_own : (order : List Request) (new : Request)
    → queue_of (in_front_of order new) new.line ≡ new ∷ queue_of order new.line
queue_of_in_front_of_own [] new = ap (λ test. cond test (new ∷ []) []) (own_test new.line)
queue_of_in_front_of_own (request ∷ order) new =
    step (request.line == new.line) refl (queue_of_in_front_of_own order new)
  where
    step : (on_line : Bool) → (request.line == new.line) ≡ on_line
        → queue_of (in_front_of order new) new.line ≡ new ∷ queue_of order new.line
        → queue_of (cond on_line (new ∷ request ∷ order) (request ∷ in_front_of order new)) new.line
        ≡ new ∷ queue_of (request ∷ order) new.line
    step true is rest =
        let queue : List Request = queue_of (request ∷ order) new.line in
        ap (λ test. cond test (new ∷ queue) queue) (own_test new.line)
    step false is rest =
        let queue : List Request = queue_of (in_front_of order new) new.line in
        ap (λ test. cond test (request ∷ queue) queue) is ∙ rest
        ∙ sym (ap (λ test. new ∷ cond test (request ∷ queue_of order new.line) (queue_of order new.line)) is)

pub queue_of_in_front_of_other : (order : List Request) (new : Request) (line : ℕ) → new.line ≢ line
    → queue_of (in_front_of order new) line ≡ queue_of order line
queue_of_in_front_of_other [] new line other = ap (λ test. cond test (new ∷ []) []) (other_test new.line line other)
queue_of_in_front_of_other (request ∷ order) new line other =
    step (request.line == new.line) (queue_of_in_front_of_other order new line other)
  where
    step : (on_line : Bool) → queue_of (in_front_of order new) line ≡ queue_of order line
        → queue_of (cond on_line (new ∷ request ∷ order) (request ∷ in_front_of order new)) line
        ≡ queue_of (request ∷ order) line
    step true rest =
        let queue : List Request = queue_of (request ∷ order) line in
        ap (λ test. cond test (new ∷ queue) queue) (other_test new.line line other)
    step false rest = ap (λ queue. cond (request.line == line) (request ∷ queue) queue) rest

pub queue_of_removed : (order : List Request) (hart line : ℕ) →
    queue_of (removed order hart) line ≡ removed (queue_of order line) hart
queue_of_removed order hart line =
    let on_line : Request → Bool = λ request. request.line == line in
    let of_another : Request → Bool = λ request. not (request.hart == hart) in
    queue_of_filter (removed order hart) line
    ∙ ap (filter on_line) (removed_filter order hart)
    ∙ filter_of_filter on_line of_another order
    ∙ ap (filter of_another) (sym (queue_of_filter order line))
    ∙ sym (removed_filter (queue_of order line) hart)

-- the first of a line is gone, and the others of the line stay
pub queue_of_removed_own : (order : List Request) (line : ℕ) (head : Request) (rest : List Request) → IsOneEach order
    → queue_of order line ≡ head ∷ rest → queue_of (removed order head.hart) line ≡ rest
queue_of_removed_own order line head rest once is =
    let P : List Request → Type 0 = λ queue. IsOneEach queue in
    let once_of_line : IsOneEach (head ∷ rest) = subst P is (one_each_queue_of order line once) in
    queue_of_removed order head.hart line
    ∙ ap (λ queue. removed queue head.hart) is
    ∙ ap (λ test. cond test (removed rest head.hart) (head ∷ removed rest head.hart)) (own_test head.hart)
    ∙ removed_absent rest head.hart (alone_in_front head rest once_of_line)

-- a hart without a request, or with one for another line, has none for this line
request_of_queue_of_none : (order : List Request) (line hart : ℕ) → request_of order hart ≡ None
    → request_of (queue_of order line) hart ≡ None
request_of_queue_of_none order line hart none =
    absent_by_count (queue_of order line) hart
    (omega (arith, count_of_queue_of order line hart, count_of_absent order hart none))

request_of_queue_of_other : (order : List Request) (line hart : ℕ) (found : Request) → IsOneEach order
    → request_of order hart ≡ Some found → found.line ≢ line → request_of (queue_of order line) hart ≡ None
request_of_queue_of_other [] line hart found once is other = refl
request_of_queue_of_other (request ∷ order) line hart found once is other =
    step (request.hart == hart) refl is
    (request_of_queue_of_none order line request.hart (alone_in_front request order once))
    (λ later. request_of_queue_of_other order line hart found (one_each_rest request order once) later other)
  where
    step : (own : Bool) → (request.hart == hart) ≡ own → cond own (Some request) (request_of order hart) ≡ Some found
        → request_of (queue_of order line) request.hart ≡ None
        → (request_of order hart ≡ Some found → request_of (queue_of order line) hart ≡ None)
        → request_of (queue_of (request ∷ order) line) hart ≡ None
    step true test is alone rest =
        let same : request ≡ found = cc in
        let hart_is : request.hart ≡ hart = number_of_test request.hart hart test in
        let line_is : (request.line == line) ≡ false =
        other_test request.line line (λ on_line. other (ap (λ r. r.line) (sym same) ∙ on_line)) in
        ap (λ test. request_of (cond test (request ∷ queue_of order line) (queue_of order line)) hart) line_is
        ∙ ap (request_of (queue_of order line)) (sym hart_is) ∙ alone
    step false test is alone rest = behind (request.line == line) (rest is)
      where
        behind : (on_line : Bool) → request_of (queue_of order line) hart ≡ None
            → request_of (cond on_line (request ∷ queue_of order line) (queue_of order line)) hart ≡ None
        behind true none = ap (λ test. cond test (Some request) (request_of (queue_of order line) hart)) test ∙ none
        behind false none = none

-- a line on which the hart has no request keeps its requests
pub queue_of_removed_other : (order : List Request) (gone line : ℕ) (request : Request) → IsOneEach order
    → request_of order gone ≡ Some request → request.line ≢ line →
    queue_of (removed order gone) line ≡ queue_of order line
queue_of_removed_other order gone line request once is other =
    queue_of_removed order gone line
    ∙ removed_absent (queue_of order line) gone (request_of_queue_of_other order line gone request once is other)

-- the first and the last request of a line are those of its queue
pub first_of_queue_of : (order : List Request) (line : ℕ) → first_of (queue_of order line) line ≡ first_of order line
first_of_queue_of order line =
    let test : Request → Bool = λ request. request.line == line in
    first_of_find (queue_of order line) line
    ∙ ap (find test) (queue_of_filter order line)
    ∙ find_of_filter_kept test test (λ request own. own) order
    ∙ sym (first_of_find order line)

pub tail_of_queue_of : (order : List Request) (line : ℕ) → tail_of (queue_of order line) line ≡ tail_of order line
tail_of_queue_of [] line = refl
tail_of_queue_of (request ∷ order) line = step (request.line == line) refl (tail_of_queue_of order line)
  where
    step : (on_line : Bool) → (request.line == line) ≡ on_line → tail_of (queue_of order line) line ≡ tail_of order line
        → tail_of (cond on_line (request ∷ queue_of order line) (queue_of order line)) line
        ≡ option_or (tail_of order line) (cond on_line (Some request) None)
    step true is rest = (λ i. option_or (rest i) (cond (is i) (Some request) None))
    step false is rest = rest ∙ sym (or_nothing (tail_of order line))

-- so the first and the last request of another line stay
pub first_of_removed_other : (order : List Request) (gone line : ℕ) (request : Request) → IsOneEach order
    → request_of order gone ≡ Some request → request.line ≢ line →
    first_of (removed order gone) line ≡ first_of order line
first_of_removed_other order gone line request once is other =
    sym (first_of_queue_of (removed order gone) line)
    ∙ ap (λ queue. first_of queue line) (queue_of_removed_other order gone line request once is other)
    ∙ first_of_queue_of order line

pub tail_of_removed_other : (order : List Request) (gone line : ℕ) (request : Request) → IsOneEach order
    → request_of order gone ≡ Some request → request.line ≢ line →
    tail_of (removed order gone) line ≡ tail_of order line
tail_of_removed_other order gone line request once is other =
    sym (tail_of_queue_of (removed order gone) line)
    ∙ ap (λ queue. tail_of queue line) (queue_of_removed_other order gone line request once is other)
    ∙ tail_of_queue_of order line

-- a request that was found is of the hart, or on the line, that it was looked for
pub hart_of_request_of : (order : List Request) (hart : ℕ) (found : Request) → request_of order hart ≡ Some found →
    found.hart ≡ hart
hart_of_request_of order hart found is =
    number_of_test found.hart hart
    (find_passes (λ request. request.hart == hart) order found (sym (request_of_find order hart) ∙ is))

pub line_of_first_of : (order : List Request) (line : ℕ) (found : Request) → first_of order line ≡ Some found →
    found.line ≡ line
line_of_first_of order line found is =
    number_of_test found.line line
    (find_passes (λ request. request.line == line) order found (sym (first_of_find order line) ∙ is))

pub line_of_tail_of : (order : List Request) (line : ℕ) (found : Request) → tail_of order line ≡ Some found →
    found.line ≡ line
line_of_tail_of order line found is =
    number_of_test found.line line
    (find_passes (λ request. request.line == line) (reverse order) found (sym (tail_of_find order line) ∙ is))

-- and it is its hart's request
pub request_of_first_of : (order : List Request) (line : ℕ) (found : Request) → IsOneEach order
    → first_of order line ≡ Some found → request_of order found.hart ≡ Some found
request_of_first_of [] line found once is = absurd cc
request_of_first_of (request ∷ order) line found once is =
    step (request.line == line) is (alone_in_front request order once)
    (request_of_first_of order line found (one_each_rest request order once))
  where
    step : (on_line : Bool) → cond on_line (Some request) (first_of order line) ≡ Some found
        → request_of order request.hart ≡ None →
        (first_of order line ≡ Some found → request_of order found.hart ≡ Some found)
        → request_of (request ∷ order) found.hart ≡ Some found
    step true is alone rest = let same : request ≡ found = cc in found_in_front request order found same
    step false is alone rest = found_behind request order found alone (rest is)

pub request_of_tail_of : (order : List Request) (line : ℕ) (found : Request) → IsOneEach order
    → tail_of order line ≡ Some found → request_of order found.hart ≡ Some found
request_of_tail_of [] line found once is = absurd cc
request_of_tail_of (request ∷ order) line found once is =
    step (tail_of order line) (request.line == line) refl is (alone_in_front request order once)
    (request_of_tail_of order line found (one_each_rest request order once))
  where
    step : (last : Option Request) (on_line : Bool) → tail_of order line ≡ last
        → option_or last (cond on_line (Some request) None) ≡ Some found → request_of order request.hart ≡ None
        → (tail_of order line ≡ Some found → request_of order found.hart ≡ Some found)
        → request_of (request ∷ order) found.hart ≡ Some found
    step (Some last) on_line last_is is alone rest = found_behind request order found alone (rest (last_is ∙ is))
    step None true last_is is alone rest = let same : request ≡ found = cc in found_in_front request order found same
    step None false last_is is alone rest = absurd cc
