-- whether a new bit would meet another hart's request, as the bus tells it
use Rattle.std.proofs.Common.{◌≡◌, ◌∙◌, ℕ, ◌==◌, ◌&&◌, ◌||◌, not, List, [], ◌∷◌, refl, ap}
use Rattle.std.specs.Prelude.{map}
use Rattle.std.specs.List.{list_any}
use Rattle.bus_order.specs.Order.{numbered}
use Rattle.bus_order.specs.declared.request.Request as requests
use Rattle.el_base.specs.declared.outcomes.Need.{Need}
use Rattle.el_base.specs.declared.outcomes.Need.TheVariants.{Read, Write}
use Rattle.el_model.specs.Conflicts.{is_asked, is_wanted, writes}
use Rattle.el_model.specs.State.{ModelState}
use Rattle.snoop.specs.Shows.{BusState, Shows}

-- whether one of these requests is another hart's for the line, and counts
any_asked : (need : Need) (requests : List requests.Request) (h line : ℕ) →
    list_any (λ request. (request.line.number == line) && not (request.hart.number == h)
    && (writes need || writes request.need)) requests
    ≡ is_asked (λ request. writes need || writes request.need) (map numbered requests) h line
any_asked need [] h line = refl
any_asked need (request ∷ requests) h line =
    ap
    (λ later.
    ((request.line.number == line) && not (request.hart.number == h) && (writes need || writes request.need))
    || later)
    (any_asked need requests h line)

by_need : (state : ModelState) (h line : ℕ) (need : Need) →
    is_asked (λ request. writes need || writes request.need) state.order h line ≡ is_wanted state h line need
by_need state h line Read = refl
by_need state h line Write = refl

-- the test that the bus makes is the definition's
pub wanted_shown : (bus : BusState) (state : ModelState) (requests : List requests.Request) (h line : ℕ) (need : Need) →
    map numbered requests ≡ bus.order → Shows bus state →
    list_any (λ request. (request.line.number == line) && not (request.hart.number == h)
    && (writes need || writes request.need)) requests
    ≡ is_wanted state h line need
wanted_shown bus state requests h line need same shows =
    any_asked need requests h line
    ∙ ap (λ order. is_asked (λ request. writes need || writes request.need) order h line) (same ∙ shows.order)
    ∙ by_need state h line need
