-- no clock is greater than the number of the events: an attempt that closes makes one by one greater than two that were
-- there, and every other change takes one that was there
use Rattle.std.proofs.Common.{◌≡◌, ◌+◌, ◌≤◌, ◌==◌, ℕ, Bool, true, false, List, [], ◌∷◌, Option, None, Some, is_some}
use Rattle.std.proofs.Common.{length}
use Rattle.std.proofs.Common.{ap, arith, subst, sym, ◌∙◌, if◌then◌else◌}
use Rattle.bus_order.specs.Order.{Request, appended, first_of, in_front_of, removed, request_of}
use Rattle.el_base.specs.declared.config.Config.{Config}
use Rattle.el_base.specs.declared.config.Mode.{Mode}
use Rattle.el_base.specs.declared.config.Mode.TheVariants.{Plain, Sle, Tlr}
use Rattle.el_base.specs.declared.events.Event.{Event}
use Rattle.elf_image.specs.Program.{Program}
use Rattle.el_model.specs.Attempts.{closed_clock, opened, see}
use Rattle.el_model.specs.BusEvent.{AtFace, AtProbe, Becomes, IsAbsent, IsBusEvent, IsLetGo, IsSent, LosesIt}
use Rattle.el_model.specs.BusEvent.{LosesWhere}
use Rattle.el_model.specs.BusEvent.{Nothing, Places, Sees, Serves}
use Rattle.el_model.specs.BusEvent.{Start, Starts, StartsWhere, Takes, as_faced, faced_head, having_taken, order_after}
use Rattle.el_model.specs.BusEvent.{order_at, started}
use Rattle.el_model.specs.Conflicts.{stamp_in}
use Rattle.el_model.specs.Deed.{Arms, Begins, Buffers, Commits, Continues, Deed, Elides, LetsGo, Misses, Rests}
use Rattle.el_model.specs.Deed.{RollsBack, Runs, Waits, hart_after}
use Rattle.el_model.specs.Face.{winning_stamp}
use Rattle.el_model.specs.Next.{next, state_after, step_turn}
use Rattle.el_model.specs.Order.{Alone, Behind, InFront, Place}
use Rattle.el_model.specs.Plain.{after_candidate, candidate_of}
use Rattle.el_model.specs.RollBack.{beaten, most_tries, out_of_section}
use Rattle.el_model.specs.Serve.{bystander, served_hart, with_claim}
use Rattle.el_model.specs.State.{Hart, ModelState, Turn, begin, for_line, hart_of, new_hart, ordered_of, ordered_on}
use Rattle.el_model.specs.Upcoming.{Swap}
use Rattle.section_laws.proofs.Laws.NewHarts.{each_new}
use Rattle.el_model.proofs.Laws.BusEvents.{by_event}
use Rattle.el_model.proofs.Laws.Deeds.{step_deed}
use Rattle.el_model.proofs.Laws.EachHart.{each_with}
use Rattle.el_model.proofs.Laws.Orders.{order_as_faced, served_order}
use Rattle.el_model.proofs.Laws.Tests.{by_hart, by_test}
use Rattle.mail.specs.Mailbox.{Marker, Message, Probe}
use Rattle.stamp.specs.Stamps.{Stamp}
use Rattle.step_laws.specs.Clocks.{AreClocksUpTo, AreRequestsUpTo, ClocksAreFew, IsHartUpTo, IsRequestUpTo, IsStampUpTo}

-- a greater bound
stamp_more : (less more : ℕ) → less ≤ more → (stamp : Option Stamp) → IsStampUpTo less stamp → IsStampUpTo more stamp
stamp_more less more grew None now = tt
stamp_more less more grew (Some stamp) now = omega (arith, grew, now)

request_more : (less more : ℕ) → less ≤ more → (request : Option Request) → IsRequestUpTo less request →
    IsRequestUpTo more request
request_more less more grew None now = tt
request_more less more grew (Some request) now = stamp_more less more grew request.stamp now

requests_more : (less more : ℕ) → less ≤ more → (order : List Request) → AreRequestsUpTo less order →
    AreRequestsUpTo more order
requests_more less more grew [] now = tt
requests_more less more grew (request ∷ order) (own, others) =
    (stamp_more less more grew request.stamp own, requests_more less more grew order others)

hart_more : (less more : ℕ) → less ≤ more → (hart : Hart) → IsHartUpTo less hart → IsHartUpTo more hart
hart_more less more grew hart now =
    let clock = now.of_clock in
    let seen = now.of_seen in
    record {
      of_clock = omega (arith, grew, clock);
      of_seen = omega (arith, grew, seen);
      of_attempt = stamp_more less more grew hart.attempt now.of_attempt;
      of_raised = request_more less more grew hart.raised now.of_raised;
    }

clocks_more : (less more : ℕ) → less ≤ more → (state : ModelState) → AreClocksUpTo less state → AreClocksUpTo more state
clocks_more less more grew state now = record {
  harts = λ h. hart_more less more grew (hart_of state h) (now.harts h);
  ordered = requests_more less more grew state.order now.ordered;
}

none_up_to : (most sets : ℕ) → IsHartUpTo most (new_hart sets)
none_up_to most sets = record { of_clock = omega arith; of_seen = omega arith; of_attempt = tt; of_raised = tt }

module _ (most : ℕ) where
  -- the order of requests
  appended_up_to : (order : List Request) (request : Request) → IsStampUpTo most request.stamp →
      AreRequestsUpTo most order → AreRequestsUpTo most (appended order request)
  appended_up_to [] request new now = (new, tt)
  appended_up_to (first ∷ order) request new (own, others) = (own, appended_up_to order request new others)

  in_front_up_to : (order : List Request) (request : Request) → IsStampUpTo most request.stamp →
      AreRequestsUpTo most order → AreRequestsUpTo most (in_front_of order request)
  in_front_up_to [] request new now = (new, tt)
  in_front_up_to (first ∷ order) request new (own, others) =
      by_test (AreRequestsUpTo most) (first.line == request.line) (request ∷ first ∷ order)
      (first ∷ in_front_of order request)
      (λ here. (new, (own, others))) (λ behind. (own, in_front_up_to order request new others))

  removed_up_to : (order : List Request) (h : ℕ) → AreRequestsUpTo most order → AreRequestsUpTo most (removed order h)
  removed_up_to [] h now = tt
  removed_up_to (first ∷ order) h (own, others) =
      by_test (AreRequestsUpTo most) (first.hart == h) (removed order h) (first ∷ removed order h)
      (λ gone. removed_up_to order h others)
      (λ kept. (own, removed_up_to order h others))

  request_up_to : (order : List Request) (h : ℕ) → AreRequestsUpTo most order → IsRequestUpTo most (request_of order h)
  request_up_to [] h now = tt
  request_up_to (first ∷ order) h (own, others) =
      by_test (IsRequestUpTo most) (first.hart == h) (Some first) (request_of order h) (λ mine. own)
      (λ other. request_up_to order h others)

  head_up_to : (order : List Request) (line : ℕ) → AreRequestsUpTo most order → IsRequestUpTo most (first_of order line)
  head_up_to [] line now = tt
  head_up_to (first ∷ order) line (own, others) =
      by_test (IsRequestUpTo most) (first.line == line) (Some first) (first_of order line) (λ here. own)
      (λ other. head_up_to order line others)

  -- the stamp of a request that may be there, and of one that may be for a line
  stamp_up_to : (request : Option Request) → IsRequestUpTo most request → IsStampUpTo most (stamp_in request)
  stamp_up_to None now = tt
  stamp_up_to (Some request) now = now

  for_line_up_to : (line : ℕ) (request : Option Request) → IsRequestUpTo most request →
      IsRequestUpTo most (for_line line request)
  for_line_up_to line None now = tt
  for_line_up_to line (Some request) now =
      by_test (IsRequestUpTo most) (request.line == line) (Some request) None (λ here. now) (λ other. tt)

  winning_up_to : (state : ModelState) (line winner : ℕ) → AreRequestsUpTo most state.order →
      IsStampUpTo most (winning_stamp state line winner)
  winning_up_to state line winner now =
      stamp_up_to (ordered_on state winner line)
      (for_line_up_to line (ordered_of state winner) (request_up_to state.order winner now))

  -- a hart sees a stamp, or loses its section
  saw_up_to : (stamp : Option Stamp) (hart : Hart) → IsStampUpTo most stamp → IsHartUpTo most hart →
      IsHartUpTo most (see stamp hart)
  saw_up_to None hart small now = now
  saw_up_to (Some stamp) hart small now =
      let seen = now.of_seen in
      record {
        of_clock = now.of_clock;
        of_seen = omega (arith, seen, small);
        of_attempt = now.of_attempt;
        of_raised = now.of_raised;
      }

  try_up_to : (hart : Hart) → IsHartUpTo most hart →
      IsHartUpTo most (if hart.tries + 1 == most_tries then record hart { tries = 0; fallback = true }
      else record hart { tries = hart.tries + 1 })
  try_up_to hart now = by_test (IsHartUpTo most) (hart.tries + 1 == most_tries) _ _ (λ last. now) (λ more. now)

  beaten_up_to : (mode : Mode) (winner : Option Stamp) (hart : Hart) → IsStampUpTo most winner → IsHartUpTo most hart →
      IsHartUpTo most (beaten mode winner hart)
  beaten_up_to Tlr winner hart small now = saw_up_to winner (out_of_section hart) small now
  beaten_up_to Sle winner hart small now = try_up_to (out_of_section hart) now
  beaten_up_to Plain winner hart small now = try_up_to (out_of_section hart) now

  -- the order after the start of an event, the head that is faced then, and the stamp by which a section is lost
  start_up_to : (state : ModelState) (by : ℕ) (start : Start) → StartsWhere state by start → AreClocksUpTo most state →
      AreRequestsUpTo most (order_after state start)
  start_up_to state by Nothing where_it now = now.ordered
  start_up_to state by (Places request place) may now = by_place place
    where
      small : IsRequestUpTo most (Some request)
      small = subst (IsRequestUpTo most) may.raised (now.harts by).of_raised

      by_place : (place : Place) → AreRequestsUpTo most (order_at state request place)
      by_place InFront = in_front_up_to state.order request small now.ordered
      by_place Behind = appended_up_to state.order request small now.ordered
      by_place Alone = appended_up_to state.order request small now.ordered
  start_up_to state by (Serves request) may now = removed_up_to state.order request.hart now.ordered
  start_up_to state by (Takes message others) where_it now = now.ordered

  faced_up_to : (state : ModelState) (by : ℕ) (start : Start) (head : Request) → StartsWhere state by start →
      faced_head state start ≡ Some head →
      AreClocksUpTo most state → IsStampUpTo most head.stamp
  faced_up_to state by Nothing head where_it is now = absurd (cc)
  faced_up_to state by (Places request InFront) head may is now =
      subst (IsRequestUpTo most) (may.raised ∙ is) (now.harts by).of_raised
  faced_up_to state by (Places request Behind) head may is now = absurd (cc)
  faced_up_to state by (Places request Alone) head may is now =
      subst (IsRequestUpTo most) (may.raised ∙ is) (now.harts by).of_raised
  faced_up_to state by (Serves request) head may is now =
      subst (IsRequestUpTo most) (sym (ap (λ order. first_of order request.line) (served_order state request)) ∙ is)
      (head_up_to (removed state.order request.hart) request.line (removed_up_to state.order request.hart now.ordered))
  faced_up_to state by (Takes message others) head where_it is now = absurd (cc)

  lost_up_to : (state : ModelState) (by : ℕ) {start : Start} {h winner : ℕ} {stamp : Option Stamp} →
      StartsWhere state by start →
      LosesWhere state by start h winner stamp → AreClocksUpTo most state → IsStampUpTo most stamp
  lost_up_to state by where_it (AtFace start head h winner is apart fate) now =
      winning_up_to (as_faced state by start head) head.line winner
      (subst (AreRequestsUpTo most) (sym (order_as_faced state by start head))
      (start_up_to state by start where_it now))
  lost_up_to state by where_it (AtProbe origin others request is loses) now =
      subst (IsRequestUpTo most) is (request_up_to state.order origin now.ordered)

  -- what becomes of each hart
  claim_up_to : (live : Bool) (request : Request) (hart : Hart) → IsHartUpTo most hart →
      IsHartUpTo most (with_claim live request hart)
  claim_up_to true request hart now = now
  claim_up_to false request hart now = now

  taken_up_to : (message : Message) (others : List Message) (hart : Hart) → IsHartUpTo most hart →
      IsHartUpTo most (having_taken message others hart)
  taken_up_to (Marker sender) others hart now = now
  taken_up_to (Probe origin) others hart now = now

  started_up_to : (state : ModelState) (by : ℕ) (start : Start) (h : ℕ) (hart : Hart) → IsHartUpTo most hart →
      IsHartUpTo most (started state by start h hart)
  started_up_to state by Nothing h hart now = now
  started_up_to state by (Places request place) h hart now =
      by_hart (IsHartUpTo most) h request.hart (record hart { raised = None }) hart
      (λ own. record { of_clock = now.of_clock; of_seen = now.of_seen; of_attempt = now.of_attempt; of_raised = tt })
      (λ other. now)
  started_up_to state by (Serves request) h hart now =
      by_hart (IsHartUpTo most) h request.hart (served_hart state request hart) (bystander state request hart)
      (λ own. claim_up_to (is_some hart.section) request _ now) (λ other. now)
  started_up_to state by (Takes message others) h hart now =
      by_hart (IsHartUpTo most) h by (having_taken message others hart) hart
      (λ own. taken_up_to message others hart now) (λ other. now)

  becomes_up_to : (state : ModelState) (by : ℕ) (start : Start) (h : ℕ) {lost : Option ℕ} {hart : Hart} →
      StartsWhere state by start →
      AreClocksUpTo most state → Becomes state by start h lost hart → IsHartUpTo most hart
  becomes_up_to state by start h where_it now (IsAbsent past) = now.harts h
  becomes_up_to state by start h where_it now (Starts below) =
      started_up_to state by start h (hart_of state h) (now.harts h)
  becomes_up_to state by start h where_it now (IsSent message lost hart sent before) =
      becomes_up_to state by start h where_it now before
  becomes_up_to state by start h where_it now (IsLetGo head hart frees before) =
      becomes_up_to state by start h where_it now before
  becomes_up_to state by start h where_it now (Sees head lost hart defers before) =
      saw_up_to head.stamp hart (faced_up_to state by start head where_it defers.head_is now)
      (becomes_up_to state by start h where_it now before)
  becomes_up_to state by start h where_it now (LosesIt winner stamp hart loses before) =
      beaten_up_to state.config.mode stamp hart (lost_up_to state by where_it loses now)
      (becomes_up_to state by start h where_it now before)

  bus_up_to : {state : ModelState} {by : ℕ} {turn : Turn} → IsBusEvent state by turn → AreClocksUpTo most state →
      AreClocksUpTo most turn.state
  bus_up_to {state} {by} done now = record {
    harts = λ h. becomes_up_to state by done.start h done.where_it now (done.becomes h);
    ordered = subst (AreRequestsUpTo most) (sym done.order) (start_up_to state by done.start done.where_it now);
  }

-- a step: as an attempt closes, its hart's clock grows to one more than a clock that was there
candidate_up_to : (most : ℕ) (pc : Option ℕ) (had_watch : Bool) (candidate : Option Swap) (hart : Hart) →
    IsHartUpTo most hart → IsHartUpTo most (after_candidate pc had_watch candidate hart)
candidate_up_to most pc had_watch None hart now = now
candidate_up_to most pc had_watch (Some swap) hart now = now

opened_up_to : (most : ℕ) (mode : Mode) (h clock : ℕ) (attempt : Option Stamp) → clock ≤ most →
    IsStampUpTo most attempt → IsStampUpTo most (opened mode h clock attempt)
opened_up_to most Tlr h clock None small now = small
opened_up_to most Tlr h clock (Some stamp) small now = now
opened_up_to most Sle h clock attempt small now = now
opened_up_to most Plain h clock attempt small now = now

closed_up_to : (most : ℕ) (hart : Hart) (attempt : Option Stamp) → IsHartUpTo most hart →
    closed_clock hart attempt ≤ most + 1
closed_up_to most hart None now = let clock = now.of_clock in omega (arith, clock)
closed_up_to most hart (Some stamp) now = let clock = now.of_clock in
    let seen = now.of_seen in omega (arith, clock, seen)

one_more : (most : ℕ) (hart : Hart) → IsHartUpTo most hart → IsHartUpTo (most + 1) hart
one_more most hart now = hart_more most (most + 1) (omega arith) hart now

deed_up_to : (most : ℕ) (state : ModelState) (h : ℕ) (deed : Deed) (hart : Hart) → IsHartUpTo most hart →
    IsHartUpTo (most + 1) (hart_after state h deed hart)
deed_up_to most state h Rests hart now = one_more most hart now
deed_up_to most state h Waits hart now = one_more most hart now
deed_up_to most state h (Misses line need) hart now =
    let more = one_more most hart now in
    record {
      of_clock = more.of_clock;
      of_seen = more.of_seen;
      of_attempt = more.of_attempt;
      of_raised = more.of_attempt;
    }
deed_up_to most state h (Runs touch) hart now =
    candidate_up_to (most + 1) _ _ (candidate_of state h) _ (one_more most hart now)
deed_up_to most state h (Begins swap) hart now =
    let more = one_more most hart now in
    record {
      of_clock = more.of_clock;
      of_seen = more.of_seen;
      of_attempt = opened_up_to (most + 1) state.config.mode h hart.clock hart.attempt more.of_clock more.of_attempt;
      of_raised = more.of_raised;
    }
deed_up_to most state h (Buffers section touch) hart now = one_more most hart now
deed_up_to most state h (Commits section) hart now =
    let more = one_more most hart now in
    record {
      of_clock = closed_up_to most hart hart.attempt now;
      of_seen = more.of_seen;
      of_attempt = tt;
      of_raised = more.of_raised;
    }
deed_up_to most state h (RollsBack section cause) hart now =
    let more = one_more most hart now in
    record {
      of_clock = closed_up_to most hart hart.attempt now;
      of_seen = more.of_seen;
      of_attempt = tt;
      of_raised = more.of_raised;
    }
deed_up_to most state h (Arms word) hart now = one_more most hart now
deed_up_to most state h (Elides armed swap) hart now =
    let more = one_more most hart now in
    record {
      of_clock = more.of_clock;
      of_seen = more.of_seen;
      of_attempt = opened_up_to (most + 1) state.config.mode h hart.clock hart.attempt more.of_clock more.of_attempt;
      of_raised = more.of_raised;
    }
deed_up_to most state h (Continues armed) hart now = one_more most hart now
deed_up_to most state h (LetsGo armed) hart now = one_more most hart now

step_up_to : (most : ℕ) (state : ModelState) (h : ℕ) → AreClocksUpTo most state →
    AreClocksUpTo (most + 1) (step_turn state h).state
step_up_to most state h now =
    let step = step_deed state h in
    let more = clocks_more most (most + 1) (omega arith) state now in
    rw step.turn_is
    (record {
      harts =
          each_with (λ g hart. IsHartUpTo (most + 1) hart) state h (hart_after state h step.deed (hart_of state h))
          (deed_up_to most state h step.deed (hart_of state h) (now.harts h)) more.harts;
      ordered = more.ordered;
    })

next_up_to : (most : ℕ) (state : ModelState) (event : Event) → AreClocksUpTo most state →
    AreClocksUpTo (most + 1) (next state event).state
next_up_to most state event now =
    by_event (λ turn. AreClocksUpTo (most + 1) turn.state) state event
    (λ step. step_up_to most state event.hart.number now)
    (λ turn done. clocks_more most (most + 1) (omega arith) turn.state (bus_up_to most done now))

events_up_to : (most more : ℕ) (state : ModelState) (events : List Event) → more ≡ most + length events →
    AreClocksUpTo most state → AreClocksUpTo more (state_after state events)
events_up_to most more state [] is now = clocks_more most more (omega (arith, is)) state now
events_up_to most more state (event ∷ events) is now =
    events_up_to (most + 1) more (next state event).state events (omega (arith, is)) (next_up_to most state event now)

begin_up_to : (program : Program) (config : Config) → AreClocksUpTo 0 (begin program config)
unfolding begin
begin_up_to program config = record {
  harts = each_new (IsHartUpTo 0) program config (none_up_to 0);
  ordered = tt;
}

pub clocks_are_few : ClocksAreFew
clocks_are_few program config events =
    events_up_to 0 (length events) (begin program config) events (omega arith) (begin_up_to program config)
