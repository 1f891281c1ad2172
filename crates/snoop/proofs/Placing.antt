-- a raised request takes its place in the order
use Rattle.std.proofs.Common.{◌≡◌, ◌≢◌, ◌∙◌, ℕ, List, length, Option, Some, None, refl, ap, sym, arith, inl, inr}
use Rattle.std.proofs.lemmas.Bool.{cases_eq, cases_lt}
use Rattle.bus_agent.proofs.Laws.Agents.{agent_other, agent_past, agent_same, count_with_agent, few_armed_yet}
use Rattle.bus_agent.specs.Agent.{Agent, agent_at, agent_posted, with_agent}
use Rattle.bus_order.proofs.Laws.LookUps.{request_of_appended_other, request_of_appended_own}
use Rattle.bus_order.proofs.Laws.LookUps.{request_of_in_front_of_other, request_of_in_front_of_own}
use Rattle.bus_order.proofs.Laws.Orders.{one_each_appended, one_each_in_front_of}
use Rattle.bus_order.specs.Order.{IsOneEach, Request, appended, in_front_of, request_of}
use Rattle.el_model.specs.Order.{unraised}
use Rattle.el_model.specs.State.{ModelState, hart_of, with_hart}
use Rattle.mail.specs.Mailbox.{Marker, posted}
use Rattle.snoop.proofs.Ready.{ready_agent, served_yet}
use Rattle.snoop.proofs.Showing.{shows_agent}
use Rattle.snoop.specs.Leaving.{LeavesCopies}
use Rattle.snoop.specs.Shows.{CanBeServed, IsReady, BusState, Shows}

-- a request is no more a raised one, and this is the order
abbrev pub ordered_as : BusState → Request → List Request → BusState
ordered_as bus request order = record bus {
  agents = with_agent bus.agents request.hart (record (agent_at bus.agents request.hart) { raised = None });
  order = order;
}

-- the order has a hart's new request beside those that it had
pub record HasPlaced (old new : List Request) (request : Request) : Type 0 where
  pub once : IsOneEach new
  pub own : request_of new request.hart ≡ Some request
  pub others : (h : ℕ) → h ≢ request.hart → request_of new h ≡ request_of old h

pub placed_last : (order : List Request) (request : Request) → IsOneEach order → request_of order request.hart ≡ None →
    HasPlaced order (appended order request) request
placed_last order request once none = record {
  once = one_each_appended order request once none;
  own = request_of_appended_own order request none;
  others = λ h other. request_of_appended_other order request h (λ same. other (sym same));
}

pub placed_in_front : (order : List Request) (request : Request) → IsOneEach order →
    request_of order request.hart ≡ None → HasPlaced order (in_front_of order request) request
placed_in_front order request once none = record {
  once = one_each_in_front_of order request once none;
  own = request_of_in_front_of_own order request none;
  others = λ h other. request_of_in_front_of_other order request h (λ same. other (sym same));
}

-- a raised request is ordered: it can be served as before, and its hart has raised none any more
none_raised : (agents : List Agent) (h : ℕ) →
    (agent_at (with_agent agents h (record (agent_at agents h) { raised = None })) h).raised ≡ None
none_raised agents h =
    let agent = record (agent_at agents h) { raised = None } in
    elim (cases_lt h (length agents)) [
      | inl below ↦ ap (λ a. a.raised) (agent_same agents h agent below)
      | inr past ↦ ap (λ a. a.raised)
          (agent_past (with_agent agents h agent) h (omega (arith, past, count_with_agent agents h agent)))
    ]

other_raised : (bus : BusState) (request : Request) (h : ℕ) (raised : Request) →
    (agent_at (with_agent bus.agents request.hart (record (agent_at bus.agents request.hart) { raised = None }))
    h).raised ≡ Some raised → (h ≢ request.hart) × ((agent_at bus.agents h).raised ≡ Some raised)
other_raised bus request h raised is =
    let agent = record (agent_at bus.agents request.hart) { raised = None } in
    elim (cases_eq h request.hart) [
      | inl own ↦
          absurd
          (not_both _ (none_raised bus.agents request.hart)
          (ap (λ k. (agent_at (with_agent bus.agents request.hart agent) k).raised) (sym own) ∙ is))
      | inr other ↦ (other, ap (λ a. a.raised) (sym (agent_other bus.agents request.hart h agent other)) ∙ is)
    ]
  where
    not_both : (found : Option Request) → found ≡ None → found ≡ Some raised → ⊥
    not_both None first second = absurd (cc)
    not_both (Some other) first second = absurd (cc)

ready_ordered : (bus : BusState) (request : Request) (order : List Request) → IsReady bus →
    (agent_at bus.agents request.hart).raised ≡ Some request → HasPlaced bus.order order request →
    IsReady (ordered_as bus request order)
ready_ordered bus request order ready raised placed = record {
  few = omega (arith, count, ready.few);
  each = ready.each ∙ sym count;
  well_formed = ready.well_formed;
  raised = λ h other is. still h other (ready.raised h other (other_raised bus request h other is).1);
  ordered = λ h other is. elim (cases_eq h request.hart) [
    | inl own ↦
        rw own
        (still request.hart other
        (ready.raised request.hart other (raised ∙ sym placed.own ∙ ap (request_of order) (sym own) ∙ is)))
    | inr apart ↦ still h other (ready.ordered h other (sym (placed.others h apart) ∙ is))
  ];
  once = placed.once;
  one_request = λ h other is.
      let before = other_raised bus request h other is in
      placed.others h before.0 ∙ ready.one_request h other before.1;
  few_armed =
      few_armed_yet bus.agents request.hart (record (agent_at bus.agents request.hart) { raised = None })
      ready.few_armed
      (ready.few_armed request.hart);
  unmarked = ready.unmarked;
}
  where
    count : length (with_agent bus.agents request.hart (record (agent_at bus.agents request.hart) { raised = None }))
        ≡ length bus.agents
    count = count_with_agent bus.agents request.hart _

    still : (h : ℕ) (other : Request) → CanBeServed bus h other → CanBeServed (ordered_as bus request order) h other
    still h other can =
        served_yet bus (ordered_as bus request order) h other count (λ inside. inside) (λ room. room) can

-- it is shown so where the state's order is this one
shows_ordered : (bus : BusState) (state : ModelState) (request : Request) (order told : List Request) →
    Shows bus state → order ≡ told →
    Shows (ordered_as bus request order) (record (unraised state request.hart) { order = told })
shows_ordered bus state request order told shows is =
    let quiet : Agent → Agent = λ agent. record agent { raised = None } in
    let shown =
    shows_agent bus state request.hart (quiet (agent_at bus.agents request.hart))
    (record (hart_of state request.hart) { raised = None }) shows
    (ap quiet (shows.agents request.hart)) refl refl refl in
    record {
      mode = shown.mode;
      ways = shown.ways;
      agent_each = shown.agent_each;
      cache_each = shown.cache_each;
      agents = shown.agents;
      caches = shown.caches;
      live = shown.live;
      arms = shown.arms;
      order = is;
      memory = shown.memory;
    }

-- so it is left, whichever place the request gets
pub leaves_ordered : (places : List Request → List Request) (bus : BusState) (request : Request) →
    ((order : List Request) → IsOneEach order → request_of order request.hart ≡ None →
    HasPlaced order (places order) request) → IsReady bus → (agent_at bus.agents request.hart).raised
    ≡ Some request → LeavesCopies (λ state. record (unraised state request.hart) { order = places state.order }) bus
    (ordered_as bus request (places bus.order))
leaves_ordered places bus request placed ready raised = record {
  ready = ready_ordered bus request (places bus.order) ready raised
      (placed bus.order ready.once (ready.one_request request.hart request raised));
  mode = refl;
  shows =
      λ state shows. shows_ordered bus state request (places bus.order) (places state.order) shows
      (ap places shows.order);
  copies_stay = refl;
}

-- a marker that is sent
abbrev pub with_marker : BusState → ℕ → ℕ → BusState
with_marker bus from to =
    record bus { agents = with_agent bus.agents to (agent_posted (Marker from) (agent_at bus.agents to)) }

pub ready_marker : (bus : BusState) (from to : ℕ) → IsReady bus → IsReady (with_marker bus from to)
ready_marker bus from to ready =
    ready_agent bus to (agent_posted (Marker from) (agent_at bus.agents to)) ready (λ request is. is)
    (ready.few_armed to)

pub shows_marker : (bus : BusState) (state : ModelState) (from to : ℕ) → Shows bus state →
    Shows (with_marker bus from to)
    (with_hart state to (record (hart_of state to) { mail = posted (hart_of state to).mail (Marker from) }))
shows_marker bus state from to shows =
    shows_agent bus state to (agent_posted (Marker from) (agent_at bus.agents to))
    (record (hart_of state to) { mail = posted (hart_of state to).mail (Marker from) }) shows
    (ap (agent_posted (Marker from)) (shows.agents to)) refl refl refl
