-- a hart that has no request raises one
use Rattle.std.proofs.Common.{◌≡◌, ◌≢◌, ◌∙◌, ℕ, ◌<◌, true, length, None, Some, refl, ap, sym, arith, inl, inr}
use Rattle.std.proofs.lemmas.Bool.{cases_eq}
use Rattle.std.proofs.lemmas.Option.{same_Some}
use Rattle.bus_agent.proofs.Laws.Agents.{agent_other, agent_same, count_with_agent, few_armed_yet}
use Rattle.bus_agent.specs.Agent.{Agent, agent_at, agent_of, with_agent}
use Rattle.bus_order.specs.Order.{Request, request_of}
use Rattle.el_base.specs.declared.outcomes.Need.{Need}
use Rattle.el_model.specs.Plain.{missed_hart}
use Rattle.el_model.specs.State.{ModelState, hart_of, with_hart}
use Rattle.snoop.proofs.Ready.{served_yet}
use Rattle.snoop.proofs.Showing.{shows_agent}
use Rattle.snoop.specs.Asking.{HasNoRequest}
use Rattle.snoop.specs.Shows.{CanBeServed, IsReady, BusState, LiesIn, Shows, has_room_in}

-- an agent that has raised a request
abbrev pub raising : BusState → Request → Agent
raising bus request = record (agent_at bus.agents request.hart) { raised = Some request }

abbrev pub raised_in : BusState → Request → BusState
raised_in bus request = record bus { agents = with_agent bus.agents request.hart (raising bus request) }

pub ready_raised : (bus : BusState) (request : Request) → IsReady bus → request.hart < length bus.agents →
    HasNoRequest bus request.hart → LiesIn bus.copies request.line →
    has_room_in bus.copies request.hart request.line ≡ true → IsReady (raised_in bus request)
ready_raised bus request ready inside none in_memory room = record {
  few = omega (arith, count, ready.few);
  each = ready.each ∙ sym count;
  well_formed = ready.well_formed;
  raised = λ h other is. elim (cases_eq h request.hart) [
    | inl own ↦ rw own (rw (← the_one h other own is) (still request.hart request new))
    | inr apart ↦ still h other (ready.raised h other (before h other apart is))
  ];
  ordered = λ h other is. still h other (ready.ordered h other is);
  once = ready.once;
  one_request = λ h other is. elim (cases_eq h request.hart) [
    | inl own ↦ ap (request_of bus.order) own ∙ none.none_ordered
    | inr apart ↦ ready.one_request h other (before h other apart is)
  ];
  few_armed =
      few_armed_yet bus.agents request.hart (raising bus request) ready.few_armed (ready.few_armed request.hart);
  unmarked = ready.unmarked;
}
  where
    count : length (with_agent bus.agents request.hart (raising bus request)) ≡ length bus.agents
    count = count_with_agent bus.agents request.hart _

    new : CanBeServed bus request.hart request
    new = record { own = refl; hart_exists = inside; in_memory = in_memory; room = room }

    still : (h : ℕ) (other : Request) → CanBeServed bus h other → CanBeServed (raised_in bus request) h other
    still h other can = served_yet bus (raised_in bus request) h other count (λ inside. inside) (λ room. room) can

    before : (h : ℕ) (other : Request) → h ≢ request.hart →
        (agent_at (with_agent bus.agents request.hart (raising bus request)) h).raised ≡ Some other →
        (agent_at bus.agents h).raised ≡ Some other
    before h other apart is =
        ap (λ a. a.raised) (sym (agent_other bus.agents request.hart h (raising bus request) apart)) ∙ is

    the_one : (h : ℕ) (other : Request) → h ≡ request.hart →
        (agent_at (with_agent bus.agents request.hart (raising bus request)) h).raised ≡ Some other →
        request ≡ other
    the_one h other own is =
        same_Some request other
        (sym (ap (λ a. a.raised) (ap (agent_at (with_agent bus.agents request.hart (raising bus request))) own
        ∙ agent_same bus.agents request.hart (raising bus request) inside)) ∙ is)

-- a hart that holds nothing has missed a line, with the stamp of its open attempt
abbrev asking : ℕ → ℕ → Need → Agent → Agent
asking h line need agent =
    record agent { raised = Some (record { hart = h; line = line; need = need; stamp = agent.attempt }) }

pub shows_raised : (bus : BusState) (state : ModelState) (h line : ℕ) (need : Need) → Shows bus state →
    (agent_at bus.agents h).held_line ≡ None →
    Shows (raised_in bus (record { hart = h; line = line; need = need; stamp = (agent_at bus.agents h).attempt }))
    (with_hart state h (missed_hart h line need (hart_of state h)))
shows_raised bus state h line need shows nothing =
    shows_agent bus state h (asking h line need (agent_at bus.agents h))
    (missed_hart h line need (hart_of state h)) shows
    (ap (asking h line need) (shows.agents h)
    ∙ ap (λ held. record (asking h line need (agent_of (hart_of state h))) { held_line = held })
    (sym (ap (λ agent. agent.held_line) (shows.agents h)) ∙ nothing))
    refl refl refl
