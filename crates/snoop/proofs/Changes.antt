-- harts change at the bus, one after another
use Rattle.std.proofs.Common.{◌≡◌, ◌≢◌, ◌∙◌, ℕ, ◌+◌, ◌<◌, ◌≤◌, Bool, true, false, length, refl, ap, sym, subst, arith}
use Rattle.std.proofs.Common.{inl, inr}
use Rattle.std.proofs.lemmas.Bool.{cases_eq, cases_lt}
use Rattle.bus_agent.proofs.Laws.Agents.{agent_other, agent_same, count_with_agent}
use Rattle.bus_agent.specs.Agent.{Agent, agent_at}
use Rattle.bus_order.specs.Order.{IsOneEach}
use Rattle.cache_sets.specs.Slotted.{Slotted}
use Rattle.coherence.specs.Lent.{slotted_at}
use Rattle.snoop.proofs.Lent.{cleared_room, cleared_unmarked, cleared_well_formed, clears_one, lies_in_yet, stays_same}
use Rattle.snoop.proofs.Lent.{stays_twice}
use Rattle.snoop.proofs.Ready.{ready_after}
use Rattle.snoop.specs.Changing.{AreHartsChanged, ClearedIf, ClearsIf, IsHartChanged, StaysLent, cleared_if}
use Rattle.snoop.specs.Shows.{Holding, IsReady, BusState, has_room_in}

-- what one hart leaves of the copies
kept_cache : (old new : Slotted) → new ≡ old → ClearedIf false old new
kept_cache old new same =
    record {
      ways = ap (λ (cache : Slotted). cache.ways) same;
      residency = ap (λ (cache : Slotted). cache.residency) same;
    }

clears_stays : (clears : Bool) (h : ℕ) (old new : Holding) → ClearsIf clears h old new → StaysLent old new
clears_stays true h old new changed = (clears_one h old new changed).stays
clears_stays false h old new same = stays_same old new same

clears_lines : (clears : Bool) (h : ℕ) (old new : Holding) → ClearsIf clears h old new → new.lines ≡ old.lines
clears_lines true h old new changed = (clears_one h old new changed).lines
clears_lines false h old new same = ap (λ copies. copies.lines) same

clears_own : (clears : Bool) (h : ℕ) (old new : Holding) → ClearsIf clears h old new →
    ClearedIf clears (slotted_at old.caches h) (slotted_at new.caches h)
clears_own true h old new changed = (clears_one h old new changed).own
clears_own false h old new same = kept_cache _ _ (ap (λ copies. slotted_at copies.caches h) same)

clears_other : (clears : Bool) (h g : ℕ) (old new : Holding) → g ≢ h → ClearsIf clears h old new →
    ClearedIf false (slotted_at old.caches g) (slotted_at new.caches g)
clears_other true h g old new other changed = (clears_one h old new changed).others g other
clears_other false h g old new other same = kept_cache _ _ (ap (λ copies. slotted_at copies.caches g) same)

-- one change of a cache after another, of which one leaves its bits
cleared_then_kept : (clears : Bool) (old mid new : Slotted) → ClearedIf clears old mid → ClearedIf false mid new →
    ClearedIf clears old new
cleared_then_kept clears old mid new first second = record {
  ways = second.ways ∙ first.ways;
  residency = second.residency ∙ first.residency;
}

kept_then_cleared : (clears : Bool) (old mid new : Slotted) → ClearedIf false old mid → ClearedIf clears mid new →
    ClearedIf clears old new
kept_then_cleared clears old mid new first second = record {
  ways = second.ways ∙ first.ways;
  residency = second.residency ∙ ap (cleared_if clears) first.residency;
}

pub no_hart_changed : (becomes : ℕ → Agent → Agent) (clears : ℕ → Bool) (bus : BusState) →
    AreHartsChanged becomes clears 0 bus bus
no_hart_changed becomes clears bus = record {
  mode = refl;
  order = refl;
  count = refl;
  lines = refl;
  stays = stays_same bus.copies bus.copies refl;
  agents = λ h below. absurd (omega arith);
  caches = λ h below. absurd (omega arith);
  other_agents = λ h from. refl;
  other_caches = λ h from. record { ways = refl; residency = refl };
}

-- where each is to stay as it is, nothing has changed
pub nobody_changed : (becomes : ℕ → Agent → Agent) (clears : ℕ → Bool) (number : ℕ) (bus : BusState) →
    ((h : ℕ) → becomes h (agent_at bus.agents h) ≡ agent_at bus.agents h) → ((h : ℕ) → clears h ≡ false) →
    AreHartsChanged becomes clears number bus bus
nobody_changed becomes clears number bus same none = record {
  mode = refl;
  order = refl;
  count = refl;
  lines = refl;
  stays = stays_same bus.copies bus.copies refl;
  agents = λ h below. sym (same h);
  caches = λ h below. rw (none h) (record { ways = refl; residency = refl });
  other_agents = λ h from. refl;
  other_caches = λ h from. record { ways = refl; residency = refl };
}

pub one_hart_changed : (becomes : ℕ → Agent → Agent) (clears : ℕ → Bool) (h : ℕ) (old mid new : BusState) →
    AreHartsChanged becomes clears h old mid →
    IsHartChanged (becomes h) (clears h) h mid new → h < length mid.agents →
    AreHartsChanged becomes clears (h + 1) old new
one_hart_changed becomes clears h old mid new below at inside = record {
  mode = at.mode ∙ below.mode;
  order = at.order ∙ below.order;
  count = ap length at.agents ∙ count_with_agent mid.agents h _ ∙ below.count;
  lines = clears_lines (clears h) h mid.copies new.copies at.copies ∙ below.lines;
  stays =
      stays_twice old.copies mid.copies new.copies below.stays
      (clears_stays (clears h) h mid.copies new.copies at.copies);
  agents = λ g under. elim (cases_eq g h) [
    | inl same ↦ rw same own
    | inr other ↦ other_agent g other ∙ below.agents g (omega (arith, under, other))
  ];
  caches = λ g under. elim (cases_eq g h) [
    | inl same ↦
        rw same
        (kept_then_cleared (clears h) _ _ _ (below.other_caches h (omega arith))
        (clears_own (clears h) h mid.copies new.copies at.copies))
    | inr other ↦
        cleared_then_kept (clears g) _ _ _ (below.caches g (omega (arith, under, other)))
        (clears_other (clears h) h g mid.copies new.copies other at.copies)
  ];
  other_agents =
      λ g from. other_agent g (λ same. absurd (omega (arith, same, from))) ∙ below.other_agents g (omega (arith, from));
  other_caches = λ g from.
      cleared_then_kept false _ _ _ (below.other_caches g (omega (arith, from)))
      (clears_other (clears h) h g mid.copies new.copies (λ same. absurd (omega (arith, same, from))) at.copies);
}
  where
    other_agent : (g : ℕ) → g ≢ h → agent_at new.agents g ≡ agent_at mid.agents g
    other_agent g other = ap (λ agents. agent_at agents g) at.agents ∙ agent_other mid.agents h g _ other

    own : agent_at new.agents h ≡ becomes h (agent_at old.agents h)
    own =
        ap (λ agents. agent_at agents h) at.agents
        ∙ agent_same mid.agents h _ inside
        ∙ ap (becomes h) (below.other_agents h (omega arith))

-- of any hart, those past the last one too
pub any_ways : {becomes : ℕ → Agent → Agent} {clears : ℕ → Bool} {number : ℕ} {old new : BusState} →
    AreHartsChanged becomes clears number old new → (h : ℕ) →
    (slotted_at new.copies.caches h).ways ≡ (slotted_at old.copies.caches h).ways
any_ways {becomes} {clears} {number} {old} {new} changed h = elim (cases_lt h number) [
  | inl below ↦ (changed.caches h below).ways
  | inr past ↦ (changed.other_caches h past).ways
]

any_kept : {A : Type 0} (f : Agent → A) {becomes : ℕ → Agent → Agent} {clears : ℕ → Bool} {number : ℕ}
    {old new : BusState} → AreHartsChanged becomes clears number old new →
    ((h : ℕ) (agent : Agent) → f (becomes h agent) ≡ f agent) → (h : ℕ) →
    f (agent_at new.agents h) ≡ f (agent_at old.agents h)
any_kept f {becomes} {clears} {number} {old} {new} changed keeps h = elim (cases_lt h number) [
  | inl below ↦ ap f (changed.agents h below) ∙ keeps h (agent_at old.agents h)
  | inr past ↦ ap f (changed.other_agents h past)
]

-- no request is new, and each cache has as much room as before
pub changed_ready : {becomes : ℕ → Agent → Agent} {clears : ℕ → Bool} {number : ℕ} {old new : BusState} →
    AreHartsChanged becomes clears number old new →
    ((h : ℕ) (agent : Agent) → (becomes h agent).raised ≡ agent.raised) →
    ((h : ℕ) (agent : Agent) → agent.armed ≤ 15 → (becomes h agent).armed ≤ 15) → IsReady old → IsReady new
changed_ready {becomes} {clears} {number} {old} {new} changed raises few ready = ready_after old new ready (record {
  mode = changed.mode;
  agent_each = changed.count;
  cache_each = changed.stays.caches;
  well_formed = λ h below. elim (cases_lt h number) [
    | inl under ↦
        cleared_well_formed (clears h) (slotted_at old.copies.caches h) (slotted_at new.copies.caches h)
        (changed.caches h under)
        (ready.well_formed h (omega (arith, below, changed.stays.caches)))
    | inr past ↦
        cleared_well_formed false (slotted_at old.copies.caches h) (slotted_at new.copies.caches h)
        (changed.other_caches h past)
        (ready.well_formed h (omega (arith, below, changed.stays.caches)))
  ];
  once = subst IsOneEach (sym changed.order) ready.once;
  inside = λ line has. lies_in_yet line changed.stays has;
  raised =
      λ h request is.
      record { is = sym (any_kept (λ agent. agent.raised) changed raises h) ∙ is; room = room h request.line };
  ordered = λ h request is. record { is = rw (sym changed.order) is; room = room h request.line };
  few_armed = λ h. elim (cases_lt h number) [
    | inl below ↦ subst (λ agent. agent.armed ≤ 15) (sym (changed.agents h below))
        (few h (agent_at old.agents h) (ready.few_armed h))
    | inr past ↦ subst (λ agent. agent.armed ≤ 15) (sym (changed.other_agents h past)) (ready.few_armed h)
  ];
  unmarked = λ h none. elim (cases_lt h number) [
    | inl below ↦
        cleared_unmarked (clears h) (slotted_at old.copies.caches h) (slotted_at new.copies.caches h)
        (changed.caches h below) none
    | inr past ↦
        cleared_unmarked false (slotted_at old.copies.caches h) (slotted_at new.copies.caches h)
        (changed.other_caches h past) none
  ];
})
  where
    room : (h line : ℕ) → has_room_in old.copies h line ≡ true → has_room_in new.copies h line ≡ true
    room h line had = elim (cases_lt h number) [
      | inl below ↦ cleared_room (clears h) (slotted_at old.copies.caches h) (slotted_at new.copies.caches h) line
          (changed.caches h below) had
      | inr past ↦ cleared_room false (slotted_at old.copies.caches h) (slotted_at new.copies.caches h) line
          (changed.other_caches h past) had
    ]
