-- a hart takes the oldest message of its mailbox
use Rattle.std.specs.Prelude.{ℕ, Bool, false, ◌&&◌, List, [], ◌∷◌, map, filter, Option, None, Some, is_some, not, ◌==◌}
use Rattle.std.specs.Prelude.{if◌then◌else◌}
use Rattle.bus_order.specs.Order.{Request}
use Rattle.defer_list.specs.HartSet.{has, included}
use Rattle.el_base.specs.Losers.{losers_of}
use Rattle.el_base.specs.declared.losers.Losers.{Losers}
use Rattle.el_base.specs.declared.outcomes.Outcome.TheVariants.{Delivered}
use Rattle.el_model.specs.Conflicts.{retains, stamp_in}
use Rattle.el_model.specs.RollBack.{beaten}
use Rattle.el_model.specs.State.{Hart, ModelState, Turn, each_hart, hart_of, idle, numbers_of, ordered_of, ordered_on}
use Rattle.el_model.specs.State.{post_all, with_hart}
use Rattle.mail.specs.Mailbox.{Message, Marker, Probe, posted}
use Rattle.stamp.specs.Stamps.{is_before}

-- no hart has lost
abbrev pub nobody : Losers
nobody = losers_of (λ h. None)

-- one hart has lost to another
abbrev pub one_lost : ℕ → ℕ → Losers
one_lost loser winner = losers_of (λ h. if h == loser then Some winner else None)

-- the state after a hart was posted these messages
abbrev pub post_to : ModelState → ℕ → List Message → ModelState
post_to state h messages = with_hart state h (post_all (hart_of state h) messages)

-- the origins that a hart was told of and that are ordered on the line of its own ordered
-- request, ascending, but for one hart
abbrev pub told_on : ModelState → ℕ → ℕ → Option Request → List ℕ
told_on state h but None = []
told_on state h but (Some own) =
    filter
    (λ origin. not (origin == but) && has (hart_of state h).told origin && is_some (ordered_on state origin own.line))
    (numbers_of state)

-- a marker: its sender is before the hart from now on, and is sent a probe of the hart and of what the hart was told
abbrev pub after_marker : ModelState → ℕ → ℕ → ModelState
after_marker state h sender =
    post_to
    (with_hart state h (record (hart_of state h) { upstream = included (hart_of state h).upstream sender }))
    sender (Probe h ∷ map Probe (told_on state h sender (ordered_of state h)))

-- whether a hart's section retains the line of an origin's request and has the greater stamp
abbrev pub loses_to_origin : ModelState → ℕ → Option Request → Bool
loses_to_origin state h None = false
loses_to_origin state h (Some request) =
    retains state h request.line && is_before request.stamp (hart_of state h).attempt

-- the hart after it was told of an origin, whose request may cost it its section
abbrev pub told_of : ModelState → ℕ → ℕ → Option Request → Hart
told_of state h origin request =
    let hart = record (hart_of state h) { told = included (hart_of state h).told origin } in
    if loses_to_origin state h request then beaten state.config.mode (stamp_in request) hart else hart

-- the harts to which a probe is forwarded: those before the hart but the origin itself, where the hart has an ordered
-- request on the line of the origin's
abbrev pub forwards_on : ModelState → ℕ → ℕ → Option Request → ℕ → Bool
forwards_on state h origin None g = false
forwards_on state h origin (Some request) g =
    not (g == origin) && has (hart_of state h).upstream g && is_some (ordered_on state h request.line)

-- a probe is forwarded to each of them
abbrev pub forwarded : ModelState → ℕ → ℕ → Option Request → ℕ → Hart → Hart
forwarded state h origin request g hart =
    if forwards_on state h origin request g then record hart { mail = posted hart.mail (Probe origin) } else hart

-- a probe of an origin that the hart was not told of
abbrev pub after_probe : ModelState → ℕ → ℕ → Option Request → ModelState
after_probe state h origin request =
    each_hart (with_hart state h (told_of state h origin request)) (forwarded state h origin request)

-- who loses by it
abbrev pub probe_losers : ModelState → ℕ → ℕ → Option Request → Losers
probe_losers state h origin request = if loses_to_origin state h request then one_lost h origin else nobody

-- a message has taken effect; a probe of an origin that the hart was told of already has none
unfoldable pub delivered : ModelState → ℕ → Message → ModelState
delivered state h (Marker sender) = after_marker state h sender
delivered state h (Probe origin) =
    if has (hart_of state h).told origin then state else after_probe state h origin (ordered_of state origin)

abbrev pub losers_by : ModelState → ℕ → Message → Losers
losers_by state h (Marker sender) = nobody
losers_by state h (Probe origin) =
    if has (hart_of state h).told origin then nobody else probe_losers state h origin (ordered_of state origin)

-- a hart without the oldest message of its mailbox
abbrev pub taken : ModelState → ℕ → List Message → ModelState
taken state h others = with_hart state h (record (hart_of state h) { mail = others })

abbrev pub message_losers : ModelState → ℕ → Message → List Message → Losers
message_losers state h message others = losers_by (taken state h others) h message

-- the oldest message is taken out of the mailbox, and takes effect
abbrev pub deliver_next : ModelState → ℕ → List Message → Turn
deliver_next state h [] = idle state
deliver_next state h (message ∷ others) = record {
  state = delivered (taken state h others) h message;
  outcome = Delivered (message_losers state h message others);
}

unfoldable pub deliver_turn : ModelState → ℕ → Turn
deliver_turn state h = deliver_next state h (hart_of state h).mail
