-- what a call leaves is ready for the next one
use Rattle.std.proofs.Common.{◌≡◌, ◌∙◌, ℕ, ◌<◌, ◌≤◌, true, length, Option, Some, None, refl, ap, sym, inl, inr, arith}
use Rattle.std.proofs.lemmas.Bool.{cases_eq, cases_lt}
use Rattle.bus_agent.proofs.Laws.Agents.{agent_other, agent_past, agent_same, count_with_agent, few_armed_yet}
use Rattle.bus_agent.specs.Agent.{Agent, agent_at, with_agent}
use Rattle.bus_order.specs.Order.{IsOneEach, Request, request_of}
use Rattle.residency.specs.WellFormed.{IsWellFormed}
use Rattle.coherence.specs.Lent.{slotted_at}
use Rattle.snoop.specs.Shows.{CanBeServed, IsReady, IsUnmarked, BusState, LiesIn, has_room_in}

-- a request that stands after a call stood before it, and where there was room for it there is
pub record Stood (bus new : BusState) (h : ℕ) (before : Option Request) (request : Request) : Type 0 where
  pub is : before ≡ Some request
  pub room : has_room_in bus.copies h request.line ≡ true → has_room_in new.copies h request.line ≡ true

-- no request is new, nor a bit in a cache without any
pub record AsksNoMore (bus new : BusState) : Type 0 where
  pub mode : new.mode ≡ bus.mode
  pub agent_each : length new.agents ≡ length bus.agents
  pub cache_each : length new.copies.caches ≡ length bus.copies.caches
  pub well_formed : (h : ℕ) → h < length new.copies.caches →
      IsWellFormed (slotted_at new.copies.caches h).ways (slotted_at new.copies.caches h).residency
  pub inside : (line : ℕ) → LiesIn bus.copies line → LiesIn new.copies line
  pub once : IsOneEach new.order
  pub raised : (h : ℕ) (request : Request) → (agent_at new.agents h).raised ≡ Some request →
      Stood bus new h (agent_at bus.agents h).raised request
  pub ordered : (h : ℕ) (request : Request) → request_of new.order h ≡ Some request →
      Stood bus new h (request_of bus.order h) request
  pub few_armed : (h : ℕ) → (agent_at new.agents h).armed ≤ 15
  pub unmarked : (h : ℕ) → IsUnmarked bus.copies h → IsUnmarked new.copies h

pub served_yet : (bus new : BusState) (h : ℕ) (request : Request) → length new.agents ≡ length bus.agents →
    (LiesIn bus.copies request.line → LiesIn new.copies request.line) →
    (has_room_in bus.copies h request.line ≡ true → has_room_in new.copies h request.line ≡ true) →
    CanBeServed bus h request → CanBeServed new h request
served_yet bus new h request count inside room can = record {
  own = can.own;
  hart_exists = omega (arith, can.hart_exists, count);
  in_memory = inside can.in_memory;
  room = room can.room;
}

pub ready_after : (bus new : BusState) → IsReady bus → AsksNoMore bus new → IsReady new
ready_after bus new ready after = record {
  few = omega (arith, ready.few, after.agent_each);
  each = after.cache_each ∙ ready.each ∙ sym after.agent_each;
  well_formed = after.well_formed;
  raised = λ h request is. let stood = after.raised h request is in
      served_yet bus new h request after.agent_each (after.inside request.line) stood.room
      (ready.raised h request stood.is);
  ordered = λ h request is. let stood = after.ordered h request is in
      served_yet bus new h request after.agent_each (after.inside request.line) stood.room
      (ready.ordered h request stood.is);
  once = after.once;
  one_request =
      λ h request is. none h (request_of new.order h) refl (ready.one_request h request (after.raised h request is).is);
  few_armed = after.few_armed;
  unmarked = λ plain h. after.unmarked h (ready.unmarked (sym after.mode ∙ plain) h);
}
  where
    none : (h : ℕ) (found : Option Request) → request_of new.order h ≡ found → request_of bus.order h ≡ None →
        request_of new.order h ≡ None
    none h None is before = is
    none h (Some other) is before = absurd (both (request_of bus.order h) before (after.ordered h other is).is)
      where
        both : (found : Option Request) → found ≡ None → found ≡ Some other → ⊥
        both None first second = absurd (cc)
        both (Some request) first second = absurd (cc)

-- one agent has changed, and has raised no other request
pub asks_agent : (bus : BusState) (h : ℕ) (agent : Agent) → IsReady bus →
    ((request : Request) → agent.raised ≡ Some request → (agent_at bus.agents h).raised ≡ Some request) →
    agent.armed ≤ 15 → AsksNoMore bus (record bus { agents = with_agent bus.agents h agent })
asks_agent bus h agent ready raises few = record {
  mode = refl;
  agent_each = count_with_agent bus.agents h agent;
  cache_each = refl;
  well_formed = ready.well_formed;
  inside = λ line has. has;
  once = ready.once;
  raised = λ g request is. record { is = before g request is; room = λ room. room };
  ordered = λ g request is. record { is = is; room = λ room. room };
  few_armed = few_armed_yet bus.agents h agent ready.few_armed few;
  unmarked = λ g none. none;
}
  where
    before : (g : ℕ) (request : Request) → (agent_at (with_agent bus.agents h agent) g).raised ≡ Some request →
        (agent_at bus.agents g).raised ≡ Some request
    before g request is =
        elim (cases_eq g h) [
          | inl own ↦ elim (cases_lt h (length bus.agents)) [
            | inl below ↦ ap (λ k. (agent_at bus.agents k).raised) own
                ∙ raises request (sym (ap (λ a. a.raised) (ap (agent_at (with_agent bus.agents h agent)) own
                ∙ agent_same bus.agents h agent below)) ∙ is)
            | inr past ↦ ap (λ a. a.raised) (agent_past bus.agents g (omega (arith, past, own))
                ∙ sym (agent_past (with_agent bus.agents h agent) g
                (omega (arith, past, own, count_with_agent bus.agents h agent)))) ∙ is
          ]
          | inr other ↦ ap (λ a. a.raised) (sym (agent_other bus.agents h g agent other)) ∙ is
        ]

pub ready_agent : (bus : BusState) (h : ℕ) (agent : Agent) → IsReady bus →
    ((request : Request) → agent.raised ≡ Some request → (agent_at bus.agents h).raised ≡ Some request) →
    agent.armed ≤ 15 → IsReady (record bus { agents = with_agent bus.agents h agent })
ready_agent bus h agent ready raises few = ready_after bus _ ready (asks_agent bus h agent ready raises few)
