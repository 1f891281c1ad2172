-- where requests meet sections, and who wins
use Rattle.std.specs.Prelude.{ℕ, Bool, true, false, ◌&&◌, ◌||◌, List, [], ◌∷◌, Option, None, Some, is_some, ◌==◌, not}
use Rattle.std.specs.Prelude.{if◌then◌else◌}
use Rattle.bus_order.specs.Order.{Request}
use Rattle.residency.specs.Cache.{has_bit, write_bit}
use Rattle.defer_list.specs.HartSet.{has}
use Rattle.el_base.specs.declared.config.Mode.{Mode}
use Rattle.el_base.specs.declared.outcomes.Need.{Need}
use Rattle.el_base.specs.declared.outcomes.Need.TheVariants.{Read, Write}
use Rattle.el_model.specs.State.{Hart, ModelState, hart_of, head_of, is_held, numbers_of, ordered_on}
use Rattle.policy.specs.Winners.{wins_of}
use Rattle.stamp.specs.Stamps.{Stamp, is_before}

-- whether a hart's section has a bit that a request of this need conflicts with: a write conflicts with any bit, a
-- read with the write bit
abbrev pub meets_bit : Hart → ℕ → Need → Bool
meets_bit hart line Write = has_bit hart.cache line
meets_bit hart line Read = write_bit hart.cache line

-- whether a request conflicts with the live section of a hart
abbrev pub conflicts : Request → ℕ → Hart → Bool
conflicts request h hart =
    not (request.hart == h) && is_some hart.section && meets_bit hart request.line request.need

-- whether a hart's section conflicts with the head of a line, and so retains the line
abbrev pub conflicts_with : Option Request → ℕ → Hart → Bool
conflicts_with None h hart = false
conflicts_with (Some head) h hart = conflicts head h hart

abbrev pub retains : ModelState → ℕ → ℕ → Bool
retains state h line = conflicts_with (head_of state line) h (hart_of state h)

-- the first hart of which a test holds
abbrev pub first_such : (ℕ → Bool) → List ℕ → Option ℕ
first_such test [] = None
first_such test (h ∷ others) = if test h then Some h else first_such test others

-- the least hart whose section retains a line
abbrev pub retainer_of : ModelState → ℕ → Option ℕ
retainer_of state line = first_such (λ h. retains state h line) (numbers_of state)

-- the least other hart that holds a line
abbrev pub holder_of : ModelState → ℕ → ℕ → Option ℕ
holder_of state h line =
    first_such (λ other. not (other == h) && is_held (hart_of state other).held_line line) (numbers_of state)

-- whether a request wins over a hart's section
abbrev pub wins_over : Mode → Option Stamp → Hart → Bool
wins_over mode stamp hart = wins_of mode stamp hart.attempt

-- whether a hart other than this one has a request of these that are ordered on a line, and which this test takes
abbrev pub is_asked : (Request → Bool) → List Request → ℕ → ℕ → Bool
is_asked counts [] h line = false
is_asked counts (request ∷ requests) h line =
    ((request.line == line) && not (request.hart == h) && counts request) || is_asked counts requests h line

-- whether a need, and so a request, is to write
abbrev pub writes : Need → Bool
writes Write = true
writes Read = false

abbrev pub is_write : Request → Bool
is_write request = writes request.need

-- whether another hart's write request is ordered on a line
abbrev pub is_wanted_to_write : ModelState → ℕ → ℕ → Bool
is_wanted_to_write state h line = is_asked is_write state.order h line

-- whether another hart's request that would conflict with a new bit is ordered on a line: a write with a read bit,
-- any with a write bit
abbrev pub is_wanted : ModelState → ℕ → ℕ → Need → Bool
is_wanted state h line Read = is_wanted_to_write state h line
is_wanted state h line Write = is_asked (λ request. true) state.order h line

-- the stamp of a request, if there is one and it has one
abbrev pub stamp_in : Option Request → Option Stamp
stamp_in None = None
stamp_in (Some request) = request.stamp

-- the earlier of an origin that may be there and another that comes after it in ascending order
abbrev pub earlier : (ℕ → Option Stamp) → Option ℕ → Option ℕ → Option ℕ
earlier stamp None other = other
earlier stamp (Some origin) None = Some origin
earlier stamp (Some origin) (Some other) =
    if is_before (stamp other) (stamp origin) then Some other else Some origin

-- of these harts, the one with the least stamp among those of which a test holds
abbrev pub least_such : (ℕ → Bool) → (ℕ → Option Stamp) → List ℕ → Option ℕ
least_such test stamp [] = None
least_such test stamp (h ∷ others) =
    if test h then earlier stamp (Some h) (least_such test stamp others) else least_such test stamp others

-- of the origins that a hart was told of and that are ordered on a line with a stamp less than the one of its
-- section, the one with the least stamp
abbrev pub told_winner : ModelState → Hart → ℕ → Option ℕ
told_winner state hart line =
    least_such
    (λ origin. has hart.told origin && is_before (stamp_in (ordered_on state origin line)) hart.attempt)
    (λ origin. stamp_in (ordered_on state origin line))
    (numbers_of state)
