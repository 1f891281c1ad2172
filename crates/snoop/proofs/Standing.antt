-- a bus that nothing was asked of is ready, and stays so as a hart raises a request that can be served
use Rattle.std.proofs.Common.{◌≡◌, ◌≢◌, ◌∙◌, ℕ, ◌<◌, ◌≤◌, Bool, true, false, List, [], length, Option, Some, None}
use Rattle.std.proofs.Common.{is_some, refl, ap, sym, subst, arith, inl, inr}
use Rattle.std.specs.Bool.{MatchBool}
use Rattle.std.specs.Option.{option_map}
use Rattle.std.proofs.lemmas.Bool.{cases_eq}
use Rattle.bus_agent.proofs.Laws.Agents.{agent_other, agent_same, count_with_agent, few_armed_yet}
use Rattle.bus_agent.specs.Agent.{Agent, agent_at, with_agent}
use Rattle.bus_order.proofs.Laws.Orders.{one_each_none}
use Rattle.bus_order.specs.Order.{Request, numbered, request_of}
use Rattle.bus_order.specs.declared.request.Request as requests
use Rattle.residency.specs.WellFormed.{IsWellFormed}
use Rattle.coherence.specs.Lent.{slotted_at}
use Rattle.el_base.specs.declared.config.Mode.{Mode}
use Rattle.el_base.proofs.Laws.Options.{none_nor_some}
use Rattle.el_base.specs.declared.config.Mode.TheVariants.{Plain}
use Rattle.snoop.proofs.Ready.{served_yet}
use Rattle.snoop.specs.Shows.{CanBeServed, Holding, IsReady, IsUnmarked, BusState}

pub ready_at_rest : (mode : Mode) (copies : Holding) (agents : List Agent) → length agents ≤ 8 →
    length copies.caches ≡ length agents →
    ((h : ℕ) → h < length copies.caches →
    IsWellFormed (slotted_at copies.caches h).ways (slotted_at copies.caches h).residency) →
    ((h : ℕ) → (agent_at agents h).raised ≡ None) → ((h : ℕ) → (agent_at agents h).armed ≤ 15) →
    (mode ≡ Plain → (h : ℕ) → IsUnmarked copies h) →
    IsReady (record { mode = mode; copies = copies; agents = agents; order = [] })
ready_at_rest mode copies agents few each formed none few_armed unmarked = record {
  few = few;
  each = each;
  well_formed = formed;
  raised = λ h request is. none_nor_some (agent_at agents h).raised request (none h) is;
  ordered = λ h request is. absurd (cc);
  once = one_each_none;
  one_request = λ h request is. refl;
  few_armed = few_armed;
  unmarked = unmarked;
}

-- a hart has raised a request
abbrev pub with_raised : List Agent → Request → List Agent
with_raised agents request =
    with_agent agents request.hart (record (agent_at agents request.hart) { raised = Some request })

pub ready_raised : (bus : BusState) (request : Request) → IsReady bus → request_of bus.order request.hart ≡ None →
    CanBeServed bus request.hart request → IsReady (record bus { agents = with_raised bus.agents request })
ready_raised bus request ready none can = record {
  few = omega (arith, ready.few, count);
  each = ready.each ∙ sym count;
  well_formed = ready.well_formed;
  raised = λ h other is. elim (cases_eq h request.hart) [
    | inl own ↦
        rw own
        (subst (CanBeServed (record bus { agents = with_raised bus.agents request }) request.hart)
        (same other (own_request h other own is))
        (still request.hart request can))
    | inr apart ↦ still h other (ready.raised h other (other_request h other apart is))
  ];
  ordered = λ h other is. still h other (ready.ordered h other is);
  once = ready.once;
  one_request = λ h other is. elim (cases_eq h request.hart) [
    | inl own ↦ ap (request_of bus.order) own ∙ none
    | inr apart ↦ ready.one_request h other (other_request h other apart is)
  ];
  few_armed =
      few_armed_yet bus.agents request.hart (record (agent_at bus.agents request.hart) { raised = Some request })
      ready.few_armed
      (ready.few_armed request.hart);
  unmarked = ready.unmarked;
}
  where
    count : length (with_raised bus.agents request) ≡ length bus.agents
    count = count_with_agent bus.agents request.hart _

    own_request : (h : ℕ) (other : Request) → h ≡ request.hart →
        (agent_at (with_raised bus.agents request) h).raised ≡ Some other → Some request ≡ Some other
    own_request h other own is =
        sym
        (ap (λ a. a.raised)
        (agent_same bus.agents request.hart
        (record (agent_at bus.agents request.hart) { raised = Some request }) can.hart_exists))
        ∙ ap (λ k. (agent_at (with_raised bus.agents request) k).raised) (sym own) ∙ is

    other_request : (h : ℕ) (other : Request) → h ≢ request.hart →
        (agent_at (with_raised bus.agents request) h).raised ≡ Some other → (agent_at bus.agents h).raised ≡ Some other
    other_request h other apart is = sym (ap (λ a. a.raised) (agent_other bus.agents request.hart h _ apart)) ∙ is

    same : (other : Request) → Some request ≡ Some other → request ≡ other
    same other is = cc

    still : (h : ℕ) (other : Request) → CanBeServed bus h other →
        CanBeServed (record bus { agents = with_raised bus.agents request }) h other
    still h other can =
        served_yet bus (record bus { agents = with_raised bus.agents request }) h other count (λ inside. inside)
        (λ room. room) can

-- what a test that holds says, and where no request is found
pub is_told : (test : Bool) (A B : Type 0) → test ≡ true → MatchBool test A B → A
is_told true A B is told = told
is_told false A B is told = absurd (cc)

pub no_request : (found : Option requests.Request) → is_some found ≡ false → option_map numbered found ≡ None
no_request None is = refl
no_request (Some request) is = absurd (cc)
