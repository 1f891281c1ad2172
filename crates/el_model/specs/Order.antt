-- a raised request takes its place in the order
use Rattle.std.specs.Prelude.{ℕ, ◌&&◌, Option, None, Some, is_some, if◌then◌else◌}
use Rattle.bus_order.specs.Order.{Request, appended, in_front_of, tail_of}
use Rattle.residency.specs.Cache.{has_bit}
use Rattle.el_base.specs.declared.config.Mode.{Mode}
use Rattle.el_base.specs.declared.config.Mode.TheVariants.{Plain, Sle, Tlr}
use Rattle.el_base.specs.declared.outcomes.Outcome.TheVariants.{Ordered}
use Rattle.el_base.specs.Freed.{no_one_freed}
use Rattle.el_base.specs.Losers.{losers_of}
use Rattle.el_base.specs.declared.freed.Freed.{Freed}
use Rattle.el_base.specs.declared.losers.Losers.{Losers}
use Rattle.el_model.specs.Armed.{freed_by}
use Rattle.el_model.specs.Face.{met, met_losers}
use Rattle.el_model.specs.State.{ModelState, Turn, cache_of, hart_of, head_of, idle, is_live, raised_of, with_hart}
use Rattle.mail.specs.Mailbox.{Marker, posted}

-- a hart without the request that it had raised
abbrev pub unraised : ModelState → ℕ → ModelState
unraised state h = with_hart state h (record (hart_of state h) { raised = None })

-- in lock removal a hart is posted a marker
abbrev pub marked_from : Mode → ModelState → ℕ → ℕ → ModelState
marked_from Tlr state sender h =
    with_hart state h (record (hart_of state h) { mail = posted (hart_of state h).mail (Marker sender) })
marked_from Sle state sender h = state
marked_from Plain state sender h = state

-- the same from or to the hart of a request that may be there
abbrev pub marked_by : ModelState → Option Request → ℕ → ModelState
marked_by state None h = state
marked_by state (Some last) h = marked_from state.config.mode state last.hart h

abbrev pub marking : ModelState → ℕ → Option Request → ModelState
marking state h None = state
marking state h (Some former) = marked_from state.config.mode state h former.hart

-- where a request goes: before all requests of its line, where the hart's own section has a bit there; behind
-- them; or to a line that has none
pub data Place : Type 0 where
  InFront : Place
  Behind : Place
  Alone : Place

abbrev pub place_for : ModelState → Request → Place
place_for state request =
    if is_live state request.hart && has_bit (cache_of state request.hart) request.line then InFront
    else if is_some (head_of state request.line) then Behind
    else Alone

-- the order with the request in its place, and the request is no more a raised one
abbrev pub placed_in_front : ModelState → Request → ModelState
placed_in_front state request =
    record (unraised state request.hart) { order = in_front_of state.order request }

abbrev pub placed_last : ModelState → Request → ModelState
placed_last state request = record (unraised state request.hart) { order = appended state.order request }

-- the state as a request that is the head of its line from now on is faced: in front, the
-- former head of its line has a marker
abbrev pub before_face : ModelState → Request → Place → ModelState
before_face state request InFront =
    marking (placed_in_front state request) request.hart (head_of state request.line)
before_face state request Behind = marked_by (placed_last state request) (tail_of state.order request.line) request.hart
before_face state request Alone = placed_last state request

-- a request takes its place, and is faced unless it is behind others of its line, of
-- which the last has sent it a marker
unfoldable pub placed : ModelState → Request → Place → ModelState
placed state request InFront = met (before_face state request InFront) request
placed state request Behind = before_face state request Behind
placed state request Alone = met (before_face state request Alone) request

-- who loses to it
abbrev pub losers_at : ModelState → Request → Place → Losers
losers_at state request InFront = met_losers (before_face state request InFront) request
losers_at state request Behind = losers_of (λ h. None)
losers_at state request Alone = met_losers (before_face state request Alone) request

abbrev pub order_losers : ModelState → Request → Losers
order_losers state request = losers_at state request (place_for state request)

-- and who is let go by it: nobody where it is behind others
abbrev pub freed_at : ModelState → Request → Place → Freed
freed_at state request InFront = freed_by (before_face state request InFront) request
freed_at state request Behind = no_one_freed
freed_at state request Alone = freed_by (before_face state request Alone) request

abbrev pub order_freed : ModelState → Request → Freed
order_freed state request = freed_at state request (place_for state request)

abbrev pub order_raised : ModelState → Option Request → Turn
order_raised state None = idle state
order_raised state (Some request) = record {
  state = placed state request (place_for state request);
  outcome = Ordered (order_losers state request) (order_freed state request);
}

unfoldable pub order_turn : ModelState → ℕ → Turn
order_turn state h = order_raised state (raised_of state h)
