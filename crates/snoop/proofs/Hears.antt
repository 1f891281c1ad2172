-- the bus shows what the definition makes of a probe
use Rattle.std.proofs.Common.{◌≡◌, ◌≢◌, ◌∙◌, ℕ, ◌<◌, ◌≤◌, ◌==◌, ◌&&◌, not, Bool, true, false, List, length, Option}
use Rattle.std.proofs.Common.{Some, None, refl}
use Rattle.std.proofs.Common.{ap, sym, subst, inl, inr, arith, if◌then◌else◌}
use Rattle.std.proofs.Math.Bool.{and-false, and-true}
use Rattle.std.proofs.lemmas.Bool.{cases_eq, cases_lt}
use Rattle.std.proofs.lemmas.List.{length-set}
use Rattle.std.specs.Prelude.{IfSome}
use Rattle.bus_agent.proofs.Laws.Agents.{agent_other, agent_past, agent_same, count_with_agent, few_armed_yet}
use Rattle.bus_agent.specs.Agent.{Agent, agent_at, agent_heard, agent_of, agent_posted, with_agent}
use Rattle.bus_order.specs.Order.{IsOneEach, Request, request_of}
use Rattle.residency.specs.Cache.{cleared}
use Rattle.residency.specs.WellFormed.{IsWellFormed}
use Rattle.coherence.specs.Beginning.{LiesWhere}
use Rattle.coherence.specs.Lent.{slotted_at}
use Rattle.defer_list.specs.HartSet.{has, included}
use Rattle.el_base.specs.Losers.{beaten_by}
use Rattle.el_base.specs.declared.losers.Losers.{Losers}
use Rattle.el_base.proofs.Laws.Tests.{first_of_both}
use Rattle.el_base.proofs.Laws.MadeLosers.{beaten_by-beyond, beaten_by-losers_of}
use Rattle.el_base.proofs.Laws.SameLosers.{same_losers}
use Rattle.el_model.specs.Conflicts.{retains, stamp_in}
use Rattle.el_model.specs.Deliver.{after_probe, forwarded, forwards_on, loses_to_origin, one_lost, told_of}
use Rattle.el_model.specs.Plain.{armed_count}
use Rattle.el_model.specs.RollBack.{beaten}
use Rattle.el_model.specs.State.{Hart, ModelState, armed_of, cache_of, each_hart, hart_of, head_of, with_hart}
use Rattle.el_model.proofs.Laws.Harts.{hart_of-with_hart_other, hart_of-with_hart_same, with_hart_kept}
use Rattle.el_model.proofs.Laws.Tests.{by_test}
use Rattle.el_model.proofs.Laws.Conflicts.{loser_lives}
use Rattle.mail.specs.Mailbox.{Probe, posted}
use Rattle.snoop.specs.Delivering.{Forwards, IsForwarded, IsLostTo, asks_on}
use Rattle.snoop.specs.Settled.{in_removal}
use Rattle.snoop.specs.Shows.{Holding, IsReady, IsUnmarked, BusState, LiesIn, Shows, has_room_in}
use Rattle.snoop.proofs.AfterFate.{beaten_agent, beaten_cache, beaten_tells, beaten_upstream}
use Rattle.snoop.proofs.Laws.Living.{TellsSection, live_unarmed, tells, tells_yet}
use Rattle.snoop.proofs.Lent.{ClearsOne, clears_one, lies_in_yet, one_room, one_unmarked, one_well_formed}
use Rattle.snoop.proofs.Ready.{asks_agent, ready_after}
use Rattle.snoop.proofs.Showing.{lies_yet, shows_agent}
use Rattle.snoop.proofs.Showing.{shows_each}

-- a hart that does not lose
pub heard_shows : (bus : BusState) (state : ModelState) (h origin : ℕ) (request : Option Request) → Shows bus state →
    loses_to_origin state h request ≡ false →
    Shows (record bus { agents = with_agent bus.agents h (agent_heard origin None (agent_at bus.agents h)) })
    (with_hart state h (told_of state h origin request))
heard_shows bus state h origin request shows stays =
    let told = record (hart_of state h) { told = included (hart_of state h).told origin } in
    subst
    (λ hart.
    Shows (record bus { agents = with_agent bus.agents h (agent_heard origin None (agent_at bus.agents h)) })
    (with_hart state h hart))
    (sym (ap (λ loses. if loses then beaten state.config.mode (stamp_in request) told else told) stays))
    (shows_agent bus state h (agent_heard origin None (agent_at bus.agents h)) told shows
    (ap (agent_heard origin None) (shows.agents h)) refl refl refl)

-- a hart that loses
abbrev lost_hart : ModelState → ℕ → ℕ → Option Request → Hart
lost_hart state h origin request =
    beaten state.config.mode (stamp_in request)
    (record (hart_of state h) { told = included (hart_of state h).told origin })

lost_here : (bus : BusState) (state : ModelState) (h origin : ℕ) (request : Option Request) → Shows bus state →
    h < length bus.agents → (g : ℕ) → g ≡ h →
    hart_of (with_hart state h (lost_hart state h origin request)) g ≡ lost_hart state h origin request
lost_here bus state h origin request shows inside g same =
    ap (hart_of (with_hart state h (lost_hart state h origin request))) same
    ∙ hart_of-with_hart_same state h (lost_hart state h origin request) (omega (arith, inside, shows.agent_each))

lost_there : (state : ModelState) (h origin : ℕ) (request : Option Request) (g : ℕ) → g ≢ h →
    hart_of (with_hart state h (lost_hart state h origin request)) g ≡ hart_of state g
lost_there state h origin request g other = hart_of-with_hart_other state h g (lost_hart state h origin request) other

lost_agent : (bus : BusState) (state : ModelState) (h origin : ℕ) (request : Option Request) → Shows bus state →
    armed_count (armed_of state h) ≡ 0 →
    agent_heard origin (in_removal bus.mode (stamp_in request)) (agent_at bus.agents h)
    ≡ agent_of (lost_hart state h origin request)
lost_agent bus state h origin request shows unarmed =
    ap (λ mode. agent_heard origin (in_removal mode (stamp_in request)) (agent_at bus.agents h)) shows.mode
    ∙ ap (agent_heard origin (in_removal state.config.mode (stamp_in request))) (shows.agents h)
    ∙ sym (beaten_agent state.config.mode (stamp_in request)
    (record (hart_of state h) { told = included (hart_of state h).told origin }) unarmed)

lost_cache : (state : ModelState) (h origin : ℕ) (request : Option Request) →
    (lost_hart state h origin request).cache ≡ cleared (cache_of state h)
lost_cache state h origin request =
    beaten_cache state.config.mode (stamp_in request)
    (record (hart_of state h) { told = included (hart_of state h).told origin })

lost_tells : (bus : BusState) (state : ModelState) (h origin : ℕ) (request : Option Request) → Shows bus state →
    h < length bus.agents → (g : ℕ) → TellsSection (hart_of (with_hart state h (lost_hart state h origin request)) g)
lost_tells bus state h origin request shows inside g = elim (cases_eq g h) [
  | inl same ↦
      subst TellsSection (sym (lost_here bus state h origin request shows inside g same))
      (beaten_tells state.config.mode (stamp_in request)
      (record (hart_of state h) { told = included (hart_of state h).told origin }))
  | inr other ↦ subst TellsSection (sym (lost_there state h origin request g other)) (tells shows g)
]

-- a hart that loses to an origin had a live section, and was not armed
loser_unarmed : (bus : BusState) (state : ModelState) (h : ℕ) (request : Option Request) → Shows bus state →
    loses_to_origin state h request ≡ true → armed_count (armed_of state h) ≡ 0
loser_unarmed bus state h None shows loses = absurd (cc)
loser_unarmed bus state h (Some request) shows loses =
    live_unarmed (hart_of state h) (tells shows h)
    (loser_lives (head_of state request.line) h (hart_of state h)
    (first_of_both (retains state h request.line) _ loses))

lost_is_shown : (bus new : BusState) (state : ModelState) (h origin : ℕ) (request : Option Request) → Shows bus state →
    h < length bus.agents → armed_count (armed_of state h) ≡ 0 → IsLostTo h origin request bus new →
    Shows new (with_hart state h (lost_hart state h origin request))
lost_is_shown bus new state h origin request shows inside unarmed lost =
    let same_harts = length-set state.harts h (lost_hart state h origin request) in
    let cleared_one = clears_one h bus.copies new.copies lost.copies in
    record {
      mode = lost.mode ∙ shows.mode;
      ways = λ g below. elim (cases_eq g h) [
        | inl same ↦ ap (λ k. (slotted_at new.copies.caches k).ways) same ∙ cleared_one.own.ways
            ∙ shows.ways h (omega (arith, inside, shows.agent_each))
        | inr other ↦ (cleared_one.others g other).ways ∙ shows.ways g (omega (arith, below, same_harts))
      ];
      agent_each = ap length lost.agents
          ∙ count_with_agent bus.agents h
          (agent_heard origin (in_removal bus.mode (stamp_in request)) (agent_at bus.agents h))
          ∙ shows.agent_each ∙ sym same_harts;
      cache_each = cleared_one.stays.caches ∙ shows.cache_each ∙ sym same_harts;
      agents = λ g. ap (λ agents. agent_at agents g) lost.agents ∙ elim (cases_eq g h) [
        | inl same ↦
            ap
            (agent_at (with_agent bus.agents h
            (agent_heard origin (in_removal bus.mode (stamp_in request)) (agent_at bus.agents h)))) same
            ∙ agent_same bus.agents h
            (agent_heard origin (in_removal bus.mode (stamp_in request)) (agent_at bus.agents h)) inside
            ∙ lost_agent bus state h origin request shows unarmed
            ∙ ap agent_of (sym (lost_here bus state h origin request shows inside g same))
        | inr other ↦ agent_other bus.agents h g (agent_heard origin (in_removal bus.mode (stamp_in request))
            (agent_at bus.agents h)) other ∙ shows.agents g
            ∙ ap agent_of (sym (lost_there state h origin request g other))
      ];
      caches = λ g. elim (cases_eq g h) [
        | inl same ↦ ap (λ k. (slotted_at new.copies.caches k).residency) same ∙ cleared_one.own.residency
            ∙ ap cleared (shows.caches h)
            ∙ sym (lost_cache state h origin request)
            ∙ ap (λ hart. hart.cache) (sym (lost_here bus state h origin request shows inside g same))
        | inr other ↦ (cleared_one.others g other).residency ∙ shows.caches g
            ∙ ap (λ hart. hart.cache) (sym (lost_there state h origin request g other))
      ];
      live = λ g. (lost_tells bus state h origin request shows inside g).live;
      arms = λ g. (lost_tells bus state h origin request shows inside g).arms;
      order = lost.order ∙ shows.order;
      memory =
          lies_yet bus.copies new.copies state.committed cleared_one.stays.first cleared_one.stays.lines shows.memory;
    }

pub lost_shows : (bus new : BusState) (state : ModelState) (h origin : ℕ) (request : Option Request) → Shows bus state →
    h < length bus.agents → loses_to_origin state h request ≡ true → IsLostTo h origin request bus new →
    Shows new (with_hart state h (told_of state h origin request))
lost_shows bus new state h origin request shows inside loses lost =
    subst (λ hart. Shows new (with_hart state h hart))
    (sym
    (ap (λ test. if test then lost_hart state h origin request
    else record (hart_of state h) { told = included (hart_of state h).told origin }) loses))
    (lost_is_shown bus new state h origin request shows inside (loser_unarmed bus state h request shows loses) lost)

pub lost_ready : (bus new : BusState) (h origin : ℕ) (request : Option Request) → IsReady bus → h < length bus.agents →
    IsLostTo h origin request bus new → IsReady new
lost_ready bus new h origin request ready inside lost = ready_after bus new ready (record {
  mode = lost.mode;
  agent_each = ap length lost.agents ∙ count_with_agent bus.agents h _;
  cache_each = cleared_one.stays.caches;
  well_formed = one_well_formed cleared_one ready.well_formed;
  inside = λ line has. lies_in_yet line cleared_one.stays has;
  once = subst IsOneEach (sym lost.order) ready.once;
  raised = λ g asked is. record {
    is =
        ((asks_agent bus h (agent_heard origin (in_removal bus.mode (stamp_in request)) (agent_at bus.agents h))
        ready (λ r was. was)
        (ready.few_armed h)).raised g asked
        (ap (λ agents. (agent_at agents g).raised) (sym lost.agents) ∙ is)).is;
    room = one_room cleared_one g asked.line;
  };
  ordered =
      λ g asked is. record {
        is = ap (λ order. request_of order g) (sym lost.order) ∙ is;
        room = one_room cleared_one g asked.line;
      };
  few_armed = λ g.
      subst (λ agents. (agent_at agents g).armed ≤ 15) (sym lost.agents)
      (few_armed_yet bus.agents h (agent_heard origin (in_removal bus.mode (stamp_in request)) (agent_at bus.agents h))
      ready.few_armed
      (ready.few_armed h) g);
  unmarked = one_unmarked cleared_one;
})
  where
    cleared_one : ClearsOne h bus.copies new.copies
    cleared_one = clears_one h bus.copies new.copies lost.copies

-- one loser
pub one_loser : (losers : Losers) (h origin : ℕ) → origin < 8 →
    ((k : ℕ) → beaten_by losers k ≡ (if k == h then Some origin else None)) → losers ≡ one_lost h origin
one_loser losers h origin low is =
    same_losers losers (one_lost h origin)
    (λ k. elim (cases_lt k 8) [
      | inl below ↦
          is k ∙ sym (beaten_by-losers_of (λ g. if g == h then Some origin else None) k below (small (k == h)))
      | inr past ↦ beaten_by-beyond losers k past ∙ sym (beaten_by-beyond (one_lost h origin) k past)
    ])
  where
    small : (test : Bool) → IfSome (if test then Some origin else None) (λ w. w < 8)
    small true = low
    small false = tt

-- the probe is forwarded
forward_test : (state : ModelState) (h origin : ℕ) (request : Option Request) (g : ℕ) →
    forwards_on state h origin request g
    ≡ ((not (g == origin) && has (hart_of state h).upstream g) && asks_on state.order h request)
forward_test state h origin None g = sym (and-false (not (g == origin) && has (hart_of state h).upstream g))
forward_test state h origin (Some request) g = refl

forwarded_agents : (asks : Bool) (upstream : List ℕ) (origin : ℕ) (old new : List Agent) →
    Forwards asks upstream origin old new → (length new ≡ length old)
    × ((g : ℕ) → g < length old → agent_at new g
    ≡ (if (not (g == origin) && has upstream g) && asks then agent_posted (Probe origin) (agent_at old g)
    else agent_at old g))
forwarded_agents true upstream origin old new each = (
  each.count,
  λ g below. each.each g below
      ∙ ap (λ test. if test then agent_posted (Probe origin) (agent_at old g) else agent_at old g)
      (sym (and-true (not (g == origin) && has upstream g))),
)
forwarded_agents false upstream origin old new same = (
  ap length same,
  λ g below. ap (λ agents. agent_at agents g) same
      ∙ ap (λ test. if test then agent_posted (Probe origin) (agent_at old g) else agent_at old g)
      (sym (and-false (not (g == origin) && has upstream g))),
)

chosen_agent : (test : Bool) (origin : ℕ) (hart : Hart) →
    (if test then agent_posted (Probe origin) (agent_of hart) else agent_of hart)
    ≡ agent_of (if test then record hart { mail = posted hart.mail (Probe origin) } else hart)
chosen_agent true origin hart = refl
chosen_agent false origin hart = refl

chosen_kept : {A : Type 0} (f : Hart → A) (test : Bool) (origin : ℕ) (hart : Hart) →
    f (record hart { mail = posted hart.mail (Probe origin) }) ≡ f hart →
    f (if test then record hart { mail = posted hart.mail (Probe origin) } else hart) ≡ f hart
chosen_kept f true origin hart keeps = keeps
chosen_kept f false origin hart keeps = refl

-- this bus shows the state after the hart was told; of the state before, the order and who is
-- before the hart are as they were
pub forward_shows : (bus new : BusState) (before told : ModelState) (h origin : ℕ) (request : Option Request) →
    Shows bus told → told.order ≡ before.order →
    (hart_of told h).upstream ≡ (hart_of before h).upstream → IsForwarded h origin request bus new →
    Shows new (each_hart told (forwarded before h origin request))
forward_shows bus new before told h origin request shows order upstream forward =
    subst (λ requests. Shows new (record (each_hart told (forwarded before h origin request)) { order = requests }))
    (forward.order ∙ shows.order)
    (shows_each bus new told (forwarded before h origin request) shows (record {
      mode = forward.mode;
      agent_each = (forwarded_agents _ _ origin bus.agents new.agents forward.agents).0;
      cache_each = ap (λ copies. length copies.caches) forward.copies;
      ways = λ g. ap (λ copies. (slotted_at copies.caches g).ways) forward.copies;
      agents = λ g below.
          (forwarded_agents _ _ origin bus.agents new.agents forward.agents).1 g below
          ∙ ap (λ test. if test then agent_posted (Probe origin) (agent_at bus.agents g) else agent_at bus.agents g)
          (same_test g)
          ∙ ap (λ agent. if forwards_on before h origin request g then agent_posted (Probe origin) agent else agent)
          (shows.agents g)
          ∙ chosen_agent (forwards_on before h origin request g) origin (hart_of told g);
      caches = λ g below. ap (λ copies. (slotted_at copies.caches g).residency) forward.copies ∙ shows.caches g
          ∙ sym (chosen_kept (λ hart. hart.cache) (forwards_on before h origin request g) origin (hart_of told g) refl);
      told = λ g below.
          let test = forwards_on before h origin request g in
          let posts = chosen_kept (λ hart. hart.cache) test origin (hart_of told g) refl in
          tells_yet (hart_of told g) (forwarded before h origin request g (hart_of told g))
          (chosen_kept (λ hart. hart.section) test origin (hart_of told g) refl)
          (chosen_kept (λ hart. hart.armed) test origin (hart_of told g) refl) posts (tells shows g);
      memory =
          subst (λ (copies : Holding). LiesWhere copies.first (length copies.lines) told.committed)
          (sym forward.copies) shows.memory;
    }))
  where
    same_test : (g : ℕ) → ((not (g == origin) && has (agent_at bus.agents h).upstream g) && asks_on bus.order h
        request) ≡ forwards_on before h origin request g
    same_test g =
        ap (λ harts. (not (g == origin) && has harts g) && asks_on bus.order h request)
        (ap (λ agent. agent.upstream) (shows.agents h) ∙ upstream)
        ∙ ap (λ requests. (not (g == origin) && has (hart_of before h).upstream g) && asks_on requests h request)
        (shows.order ∙ order)
        ∙ sym (forward_test before h origin request g)

pub forward_ready : (bus new : BusState) (h origin : ℕ) (request : Option Request) → IsReady bus →
    IsForwarded h origin request bus new → IsReady new
forward_ready bus new h origin request ready forward = ready_after bus new ready (record {
  mode = forward.mode;
  agent_each = count;
  cache_each = ap (λ copies. length copies.caches) forward.copies;
  well_formed = subst
      (λ copies. (g : ℕ) → g < length copies.caches →
      IsWellFormed (slotted_at copies.caches g).ways (slotted_at copies.caches g).residency)
      (sym forward.copies) ready.well_formed;
  inside = λ line has. subst (λ copies. LiesIn copies line) (sym forward.copies) has;
  once = subst IsOneEach (sym forward.order) ready.once;
  raised =
      λ g asked is. record {
        is = before g asked is;
        room = λ room. ap (λ copies. has_room_in copies g asked.line) forward.copies ∙ room;
      };
  ordered = λ g asked is. record {
    is = ap (λ order. request_of order g) (sym forward.order) ∙ is;
    room = λ room. ap (λ copies. has_room_in copies g asked.line) forward.copies ∙ room;
  };
  few_armed = λ g. elim (cases_lt g (length bus.agents)) [
    | inl below ↦
        subst (λ n. n ≤ 15)
        (sym (ap (λ (a : Agent). a.armed) ((forwarded_agents _ _ origin bus.agents new.agents forward.agents).1 g below)
        ∙ kept_armed _ (agent_at bus.agents g))) (ready.few_armed g)
    | inr past ↦
        subst (λ (a : Agent). a.armed ≤ 15)
        (agent_past bus.agents g past ∙ sym (agent_past new.agents g (omega (arith, past, count)))) (ready.few_armed g)
  ];
  unmarked = λ g none. subst (λ copies. IsUnmarked copies g) (sym forward.copies) none;
})
  where
    count : length new.agents ≡ length bus.agents
    count = (forwarded_agents _ _ origin bus.agents new.agents forward.agents).0

    kept_raised : (test : Bool) (agent : Agent) →
        (if test then agent_posted (Probe origin) agent else agent).raised ≡ agent.raised
    kept_raised true agent = refl
    kept_raised false agent = refl

    kept_armed : (test : Bool) (agent : Agent) →
        (if test then agent_posted (Probe origin) agent else agent).armed ≡ agent.armed
    kept_armed true agent = refl
    kept_armed false agent = refl

    before : (g : ℕ) (asked : Request) → (agent_at new.agents g).raised ≡ Some asked →
        (agent_at bus.agents g).raised ≡ Some asked
    before g asked is = elim (cases_lt g (length bus.agents)) [
      | inl below ↦ sym
          (ap (λ (a : Agent). a.raised) ((forwarded_agents _ _ origin bus.agents new.agents forward.agents).1 g below)
          ∙ kept_raised _ (agent_at bus.agents g)) ∙ is
      | inr past ↦ ap (λ (a : Agent). a.raised)
          (agent_past bus.agents g past ∙ sym (agent_past new.agents g (omega (arith, past, count)))) ∙ is
    ]

-- a hart that hears of an origin, and does not lose
pub heard_ready : (bus : BusState) (h origin : ℕ) → IsReady bus →
    IsReady (record bus { agents = with_agent bus.agents h (agent_heard origin None (agent_at bus.agents h)) })
heard_ready bus h origin ready =
    ready_after bus _ ready
    (asks_agent bus h (agent_heard origin None (agent_at bus.agents h)) ready (λ r was. was) (ready.few_armed h))

-- the hart has heard of the origin, and the probe was forwarded
pub probe_shows : (mid new : BusState) (state : ModelState) (h origin : ℕ) (request : Option Request) →
    Shows mid (with_hart state h (told_of state h origin request)) → IsForwarded h origin request mid new →
    Shows new (after_probe state h origin request)
probe_shows mid new state h origin request shows forward =
    forward_shows mid new state (with_hart state h (told_of state h origin request)) h origin request shows refl
    (with_hart_kept (λ hart. hart.upstream) state h (told_of state h origin request) told_upstream h) forward
  where
    told_upstream : (told_of state h origin request).upstream ≡ (hart_of state h).upstream
    told_upstream =
        by_test (λ hart. hart.upstream ≡ (hart_of state h).upstream) (loses_to_origin state h request)
        (lost_hart state h origin request)
        (record (hart_of state h) { told = included (hart_of state h).told origin })
        (λ loses. beaten_upstream state.config.mode (stamp_in request)
        (record (hart_of state h) { told = included (hart_of state h).told origin }))
        (λ stays. refl)
