-- The words of the order as std's words on the list of requests that the code keeps.
use Rattle.std.proofs.Common.{◌≡◌, ℕ, ◌+◌, ◌≤◌, ◌==◌, not, Bool, true, false, cond, List, [], ◌∷◌, length, map, reverse}
use Rattle.std.proofs.Common.{Some, None, refl, ap, sym}
use Rattle.std.proofs.Common.{◌∙◌, one-add, arith}
use Rattle.std.specs.List.{find, insert, remove, position, position_or_len}
use Rattle.std.specs.Option.{option_map, unwrap_or}
use Rattle.el_base.proofs.Laws.ListLaws.{find_of_map, prefix_of_map, insert_of_map, remove_of_map, reverse_of_map}
use Rattle.el_base.proofs.Laws.ListLaws.{place_or_length, place_within}
use Rattle.el_base.proofs.Laws.ListLaws.{place_by_position, find_by_no_position}
use Rattle.std.proofs.lemmas.Bool.Decides.{nat_tests}
use Rattle.bus_order.proofs.Words.{first_of_find, request_of_find, tail_of_find}
use Rattle.bus_order.proofs.Laws.Orders.{one_each_rest, alone_in_front, removed_absent}
use Rattle.bus_order.specs.declared.request.Request as requests
use Rattle.bus_order.specs.Order.{Request, numbered, first_of, tail_of, request_of, in_front_of, removed, IsOneEach}

-- what the code finds
pub first_found : (items : List requests.Request) (line : ℕ)
    → option_map numbered (find (λ request. request.line.number == line) items) ≡ first_of (map numbered items) line
first_found items line =
    sym (first_of_find (map numbered items) line ∙ find_of_map numbered (λ request. request.line == line) items)

pub tail_found : (items : List requests.Request) (line : ℕ)
    → option_map numbered (find (λ request. request.line.number == line) (reverse items))
    ≡ tail_of (map numbered items) line
tail_found items line =
    let test : Request → Bool = λ request. request.line == line in
    sym (tail_of_find (map numbered items) line ∙ ap (find test) (reverse_of_map numbered items)
    ∙ find_of_map numbered test (reverse items))

pub request_found : (items : List requests.Request) (hart : ℕ)
    → option_map numbered (find (λ request. request.hart.number == hart) items) ≡ request_of (map numbered items) hart
request_found items hart =
    sym (request_of_find (map numbered items) hart ∙ find_of_map numbered (λ request. request.hart == hart) items)

-- the place before the first request of a line
pub in_front_of_insert : (order : List Request) (new : Request)
    → in_front_of order new ≡ insert order (position_or_len (λ request. request.line == new.line) order) new
in_front_of_insert [] new = refl
in_front_of_insert (request ∷ order) new = step (request.line == new.line) (in_front_of_insert order new)
  where
    step : (same : Bool)
        → in_front_of order new ≡ insert order (position_or_len (λ request. request.line == new.line) order) new
        → cond same (new ∷ request ∷ order) (request ∷ in_front_of order new)
        ≡ insert (request ∷ order) (cond (not same) (1 + position_or_len (λ request. request.line == new.line) order) 0)
        new
    step true rest = refl
    step false rest = rw one-add (ap (λ l. request ∷ l) rest)

-- the place of a hart's request
pub removed_remove : (order : List Request) (hart : ℕ) → IsOneEach order
    → removed order hart ≡ remove order (position_or_len (λ request. request.hart == hart) order)
removed_remove [] hart once = refl
removed_remove (request ∷ order) hart once =
    step (request.hart == hart) refl (removed_remove order hart (one_each_rest request order once))
  where
    step : (own : Bool) → (request.hart == hart) ≡ own
        → removed order hart ≡ remove order (position_or_len (λ request. request.hart == hart) order)
        → cond own (removed order hart) (request ∷ removed order hart)
        ≡ remove (request ∷ order) (cond (not own) (1 + position_or_len (λ request. request.hart == hart) order) 0)
    step true is_own rest =
        let same : request.hart ≡ hart = grind (arith, nat_tests) in
        removed_absent order hart (ap (request_of order) (sym same) ∙ alone_in_front request order once)
    step false is_own rest = rw one-add (ap (λ l. request ∷ l) rest)

pub in_front_found : (items : List requests.Request) (new : requests.Request)
    →
    map numbered
    (insert items (unwrap_or (position (λ request. request.line.number == new.line.number) items) (length items)) new)
    ≡ in_front_of (map numbered items) (numbered new)
in_front_found items new =
    let line = new.line.number in
    let place = place_or_length (λ request. request.line.number == line) items in
    let on_numbers = prefix_of_map numbered (λ request. not (request.line == line)) items in
    sym
    (in_front_of_insert (map numbered items) (numbered new)
    ∙ ap (λ k. insert (map numbered items) k (numbered new)) (on_numbers ∙ sym place)
    ∙ insert_of_map numbered items _ new)

pub in_front_within : (items : List requests.Request) (line : ℕ)
    → unwrap_or (position (λ request. request.line.number == line) items) (length items) ≤ length items
in_front_within items line =
    let test : requests.Request → Bool = λ request. request.line.number == line in
    omega (arith, place_or_length test items, place_within test items)

pub removed_found : (items : List requests.Request) (hart place : ℕ) → IsOneEach (map numbered items)
    → position (λ request. request.hart.number == hart) items ≡ Some place
    → map numbered (remove items place) ≡ removed (map numbered items) hart
removed_found items hart place once found =
    let there = place_by_position (λ request. request.hart.number == hart) items place found in
    let on_numbers = prefix_of_map numbered (λ request. not (request.hart == hart)) items in
    sym
    (removed_remove (map numbered items) hart once
    ∙ ap (remove (map numbered items)) (on_numbers ∙ there.0)
    ∙ remove_of_map numbered items place)

pub nothing_removed : (items : List requests.Request) (hart : ℕ)
    → position (λ request. request.hart.number == hart) items ≡ None
    → removed (map numbered items) hart ≡ map numbered items
nothing_removed items hart none =
    removed_absent (map numbered items) hart
    (sym (request_found items hart)
    ∙ ap (option_map numbered) (find_by_no_position (λ request. request.hart.number == hart) items none))
