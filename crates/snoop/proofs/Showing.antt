-- what the bus shows after one hart has changed, and after each has
use Rattle.std.proofs.Common.{◌≡◌, ◌∙◌, ℕ, ◌*◌, ◌<◌, ◌≤◌, length, refl, ap, sym, subst, inl, inr, arith}
use Rattle.std.specs.Prelude.{slice_set}
use Rattle.std.proofs.lemmas.Bool.{cases_eq, cases_lt}
use Rattle.std.proofs.lemmas.List.{length-set}
use Rattle.bus_agent.proofs.Laws.Agents.{agent_other, agent_past, agent_same, count_with_agent}
use Rattle.bus_agent.specs.Agent.{Agent, agent_at, agent_of, with_agent}
use Rattle.coherence.specs.Beginning.{LiesWhere}
use Rattle.coherence.specs.Lent.{slotted_at}
use Rattle.el_base.specs.declared.line.TheConstants.{LINE_BYTES}
use Rattle.el_model.specs.State.{Hart, ModelState, armed_of, cache_of, each_from, each_hart, hart_of, new_hart}
use Rattle.el_model.specs.State.{section_of, with_hart}
use Rattle.el_model.proofs.Laws.Harts.{hart_of-each_hart, hart_of-each_hart_past, hart_of-past, hart_of-with_hart_same}
use Rattle.el_model.proofs.Laws.Harts.{hart_of-with_hart_other, with_hart_kept}
use Rattle.el_model.proofs.Laws.Keeps.{length-each_from}
use Rattle.snoop.proofs.Lent.{beyond}
use Rattle.snoop.proofs.Laws.Living.{TellsSection, tells, tells_nothing, tells_yet}
use Rattle.rv_flat.specs.FlatState.{FlatState}
use Rattle.snoop.specs.LettingGo.{KeepsBytes, with_committed}
use Rattle.snoop.specs.Shows.{Holding, BusState, Shows}

-- main memory that has not moved lies where it did
pub lies_yet : (old new : Holding) (flat : FlatState) → new.first ≡ old.first → length new.lines ≡ length old.lines →
    LiesWhere old.first (length old.lines) flat → LiesWhere new.first (length new.lines) flat
lies_yet old new flat first lines lies = record {
  first = ap (λ n. n * LINE_BYTES) first ∙ lies.first;
  lines = ap (λ n. n * LINE_BYTES) lines ∙ lies.lines;
}

-- the state has another committed part, which has the same memory
pub shows_committed : (bus : BusState) (state : ModelState) (committed : FlatState) →
    KeepsBytes state.committed committed → Shows bus state → Shows bus (with_committed committed state)
shows_committed bus state committed keeps shows = record {
  mode = shows.mode;
  ways = shows.ways;
  agent_each = shows.agent_each;
  cache_each = shows.cache_each;
  agents = shows.agents;
  caches = shows.caches;
  live = shows.live;
  arms = shows.arms;
  order = shows.order;
  memory =
      record { first = shows.memory.first ∙ sym keeps.base; lines = shows.memory.lines ∙ ap length (sym keeps.bytes) };
}

-- the agent of one hart has changed, and no cache
pub shows_told : (bus : BusState) (state : ModelState) (h : ℕ) (agent : Agent) (hart : Hart) → Shows bus state →
    agent ≡ agent_of hart → hart.cache ≡ cache_of state h → TellsSection hart →
    Shows (record bus { agents = with_agent bus.agents h agent }) (with_hart state h hart)
shows_told bus state h agent hart shows is cache told = record {
  mode = shows.mode;
  ways = λ g below. shows.ways g (omega (arith, below, same_harts));
  agent_each = count_with_agent bus.agents h agent ∙ shows.agent_each ∙ sym same_harts;
  cache_each = shows.cache_each ∙ sym same_harts;
  agents = λ g. elim (cases_eq g h) [
    | inl own ↦ elim (cases_lt h (length bus.agents)) [
      | inl below ↦ ap (agent_at (with_agent bus.agents h agent)) own ∙ agent_same bus.agents h agent below ∙ is
          ∙ ap agent_of (sym (hart_of-with_hart_same state h hart (omega (arith, below, shows.agent_each)))
          ∙ ap (hart_of (with_hart state h hart)) (sym own))
      | inr past ↦
          agent_past (with_agent bus.agents h agent) g (omega (arith, past, own, count_with_agent bus.agents h agent))
          ∙ ap agent_of
          (sym (hart_of-past (with_hart state h hart) g (omega (arith, past, own, shows.agent_each, same_harts))))
    ]
    | inr other ↦ agent_other bus.agents h g agent other ∙ shows.agents g
        ∙ ap agent_of (sym (hart_of-with_hart_other state h g hart other))
  ];
  caches = λ g. shows.caches g ∙ sym (kept_cache g);
  live = λ g. (all_told g).live;
  arms = λ g. (all_told g).arms;
  order = shows.order;
  memory = shows.memory;
}
  where
    same_harts : length (slice_set state.harts h hart) ≡ length state.harts
    same_harts = length-set state.harts h hart

    kept_cache : (g : ℕ) → cache_of (with_hart state h hart) g ≡ cache_of state g
    kept_cache g = with_hart_kept (λ k. k.cache) state h hart cache g

    all_told : (g : ℕ) → TellsSection (hart_of (with_hart state h hart) g)
    all_told g = elim (cases_eq g h) [
      | inl own ↦ elim (cases_lt h (length state.harts)) [
        | inl below ↦ rw own (subst TellsSection (sym (hart_of-with_hart_same state h hart below)) told)
        | inr past ↦ subst TellsSection
            (sym (hart_of-past (with_hart state h hart) g (omega (arith, past, own, same_harts)))) tells_nothing
      ]
      | inr other ↦ subst TellsSection (sym (hart_of-with_hart_other state h g hart other)) (tells shows g)
    ]

-- one hart has changed at the bus alone
pub shows_agent : (bus : BusState) (state : ModelState) (h : ℕ) (agent : Agent) (hart : Hart) → Shows bus state →
    agent ≡ agent_of hart → hart.section ≡ section_of state h → hart.armed ≡ armed_of state h →
    hart.cache ≡ cache_of state h →
    Shows (record bus { agents = with_agent bus.agents h agent }) (with_hart state h hart)
shows_agent bus state h agent hart shows is section armed cache =
    shows_told bus state h agent hart shows is cache
    (tells_yet (hart_of state h) hart section armed cache (tells shows h))

-- what each hart has become, as the bus shows it
pub record ShowsEach (bus new : BusState) (state : ModelState) (becomes : ℕ → Hart → Hart) : Type 0 where
  pub mode : new.mode ≡ bus.mode
  pub agent_each : length new.agents ≡ length bus.agents
  pub cache_each : length new.copies.caches ≡ length bus.copies.caches
  pub ways : (h : ℕ) → (slotted_at new.copies.caches h).ways ≡ (slotted_at bus.copies.caches h).ways
  pub agents : (h : ℕ) → h < length bus.agents → agent_at new.agents h ≡ agent_of (becomes h (hart_of state h))
  pub caches : (h : ℕ) → h < length bus.agents →
      (slotted_at new.copies.caches h).residency ≡ (becomes h (hart_of state h)).cache
  pub told : (h : ℕ) → h < length bus.agents → TellsSection (becomes h (hart_of state h))
  pub memory : LiesWhere new.copies.first (length new.copies.lines) state.committed

pub shows_each : (bus new : BusState) (state : ModelState) (becomes : ℕ → Hart → Hart) → Shows bus state →
    ShowsEach bus new state becomes → Shows new (record (each_hart state becomes) { order = new.order })
shows_each bus new state becomes shows each = record {
  mode = each.mode ∙ shows.mode;
  ways = λ h below. each.ways h ∙ shows.ways h (omega (arith, below, same_harts));
  agent_each = each.agent_each ∙ shows.agent_each ∙ sym same_harts;
  cache_each = each.cache_each ∙ shows.cache_each ∙ sym same_harts;
  agents = λ h. elim (cases_lt h (length bus.agents)) [
    | inl below ↦ each.agents h below ∙ ap agent_of (sym (became h below))
    | inr past ↦ agent_past new.agents h (omega (arith, past, each.agent_each)) ∙ ap agent_of (sym (gone h past))
  ];
  caches = λ h. elim (cases_lt h (length bus.agents)) [
    | inl below ↦ each.caches h below ∙ ap (λ hart. hart.cache) (sym (became h below))
    | inr past ↦ ap (λ cache. cache.residency)
        (beyond new.copies.caches h (omega (arith, past, each.cache_each, shows.agent_each, shows.cache_each)))
        ∙ ap (λ hart. hart.cache) (sym (gone h past))
  ];
  live = λ h. (all_told h).live;
  arms = λ h. (all_told h).arms;
  order = refl;
  memory = each.memory;
}
  where
    same_harts : length (each_from 0 becomes state.harts) ≡ length state.harts
    same_harts = length-each_from 0 becomes state.harts

    became : (h : ℕ) → h < length bus.agents → hart_of (each_hart state becomes) h ≡ becomes h (hart_of state h)
    became h below = hart_of-each_hart state becomes h (omega (arith, below, shows.agent_each))

    gone : (h : ℕ) → length bus.agents ≤ h → hart_of (each_hart state becomes) h ≡ new_hart 0
    gone h past = hart_of-each_hart_past state becomes h (omega (arith, past, shows.agent_each))

    all_told : (h : ℕ) → TellsSection (hart_of (each_hart state becomes) h)
    all_told h = elim (cases_lt h (length bus.agents)) [
      | inl below ↦ subst TellsSection (sym (became h below)) (each.told h below)
      | inr past ↦ subst TellsSection (sym (gone h past)) tells_nothing
    ]
