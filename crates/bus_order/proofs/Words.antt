-- The words of the order as std's look-ups and filters.
use Rattle.std.proofs.Common.{◌≡◌, ℕ, ◌==◌, not, Bool, true, false, cond, List, [], ◌∷◌, reverse, Some, None, refl, ap}
use Rattle.std.proofs.Common.{sym, ◌∙◌}
use Rattle.std.specs.List.{find, filter}
use Rattle.std.specs.Option.{option_or}
use Rattle.std.proofs.lemmas.List.{reverse-append}
use Rattle.std.proofs.lemmas.List.Folds.{find-append}
use Rattle.bus_order.specs.Order.{Request, first_of, tail_of, request_of, removed, queue_of}

pub first_of_find : (order : List Request) (line : ℕ) →
    first_of order line ≡ find (λ request. request.line == line) order
first_of_find [] line = refl
first_of_find (request ∷ order) line = ap (cond (request.line == line) (Some request)) (first_of_find order line)

pub request_of_find : (order : List Request) (hart : ℕ) →
    request_of order hart ≡ find (λ request. request.hart == hart) order
request_of_find [] hart = refl
request_of_find (request ∷ order) hart = ap (cond (request.hart == hart) (Some request)) (request_of_find order hart)

pub tail_of_find : (order : List Request) (line : ℕ) →
    tail_of order line ≡ find (λ request. request.line == line) (reverse order)
tail_of_find [] line = refl
tail_of_find (request ∷ order) line =
    let test : Request → Bool = λ request. request.line == line in
    ap (λ last. option_or last (cond (request.line == line) (Some request) None)) (tail_of_find order line)
    ∙ sym (find-append test (reverse order) (request ∷ []))
    ∙ ap (find test) (sym (reverse-append (request ∷ []) order))

pub queue_of_filter : (order : List Request) (line : ℕ) →
    queue_of order line ≡ filter (λ request. request.line == line) order
queue_of_filter [] line = refl
queue_of_filter (request ∷ order) line =
    ap (λ rest. cond (request.line == line) (request ∷ rest) rest) (queue_of_filter order line)

pub removed_filter : (order : List Request) (hart : ℕ) →
    removed order hart ≡ filter (λ request. not (request.hart == hart)) order
removed_filter [] hart = refl
removed_filter (request ∷ order) hart = step (request.hart == hart) (removed_filter order hart)
  where
    step : (own : Bool) → removed order hart ≡ filter (λ request. not (request.hart == hart)) order
        → cond own (removed order hart) (request ∷ removed order hart)
        ≡ cond (not own) (request ∷ filter (λ request. not (request.hart == hart)) order)
        (filter (λ request. not (request.hart == hart)) order)
    step true rest = rest
    step false rest = ap (λ rest. request ∷ rest) rest
