-- the order of requests: a list, first to last
use Rattle.std.specs.Prelude.{ℕ, ◌≤◌, count_by, List, [], ◌∷◌, ◌++◌, ◌==◌, Option, None, Some, if◌then◌else◌}
use Rattle.std.specs.Option.{option_map, option_or}
use Rattle.bus_order.specs.declared.request.Request as requests
use Rattle.el_base.specs.declared.outcomes.Need.{Need}
use Rattle.stamp.specs.Stamps.{Stamp, numbered_stamp}

-- what a hart asks of a line; the stamp is that of the hart's open attempt, if one was open as it was raised
pub record Request : Type 0 where
  pub hart : ℕ
  pub line : ℕ
  pub need : Need
  pub stamp : Option Stamp

-- a request as numbers
abbrev pub numbered : requests.Request → Request
numbered request = record {
  hart = request.hart.number;
  line = request.line.number;
  need = request.need;
  stamp = option_map numbered_stamp request.stamp;
}

-- the first request of a line
abbrev pub first_of : List Request → ℕ → Option Request
first_of [] line = None
first_of (request ∷ requests) line = if request.line == line then Some request else first_of requests line

-- the last request of a line
abbrev pub tail_of : List Request → ℕ → Option Request
tail_of [] line = None
tail_of (request ∷ requests) line =
    option_or (tail_of requests line) (if request.line == line then Some request else None)

-- a hart's request
abbrev pub request_of : List Request → ℕ → Option Request
request_of [] hart = None
request_of (request ∷ requests) hart = if request.hart == hart then Some request else request_of requests hart

-- the order after a request took its place behind all others
abbrev pub appended : List Request → Request → List Request
appended order request = order ++ request ∷ []

-- the order after a request took its place before the first of its line, or last where the line has none
abbrev pub in_front_of : List Request → Request → List Request
in_front_of [] new = new ∷ []
in_front_of (request ∷ requests) new =
    if request.line == new.line then new ∷ request ∷ requests else request ∷ in_front_of requests new

-- the order without a hart's requests
abbrev pub removed : List Request → ℕ → List Request
removed [] hart = []
removed (request ∷ requests) hart =
    if request.hart == hart then removed requests hart else request ∷ removed requests hart

-- the requests of a line, first to last
abbrev pub queue_of : List Request → ℕ → List Request
queue_of [] line = []
queue_of (request ∷ requests) line =
    if request.line == line then request ∷ queue_of requests line else queue_of requests line

-- each hart has at most one request
abbrev pub IsOneEach : List Request → Type 0
IsOneEach order = (hart : ℕ) → count_by (λ request. request.hart == hart) order ≤ 1
