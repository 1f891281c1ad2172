-- what the bus shows before the first event
use Rattle.std.proofs.Common.{◌≡◌, ◌∙◌, ◌<◌, ◌≤◌, ℕ, zero, suc, ◌*◌, true, false, [], length, replicate, Option, None}
use Rattle.std.proofs.Common.{Some, refl, ap, sym, subst, arith}
use Rattle.std.specs.Prelude.{slice_index_or}
use Rattle.std.proofs.lemmas.List.{length-replicate}
use Rattle.bus_agent.specs.Agent.{agent_at, agent_of, new_agent}
use Rattle.bus_order.specs.Order.{Request, request_of}
use Rattle.residency.specs.Cache.{has_marks}
use Rattle.cache_sets.specs.Cached.{empty_cached}
use Rattle.residency.specs.WellFormed.{IsWellFormed}
use Rattle.residency.proofs.Laws.WellFormedLemmas.{well_formed-empty_cache}
use Rattle.residency.proofs.Laws.Unmarked.{unmarked-empty}
use Rattle.coherence.specs.Caches.{cache_at}
use Rattle.coherence.specs.Lent.{lent_all}
use Rattle.coherence.proofs.Laws.Offered.{few_harts, length-lent, lent_at}
use Rattle.el_base.proofs.Laws.Ranges.{ranges}
use Rattle.el_base.specs.Config.{IsInRange, allows}
use Rattle.el_base.specs.declared.line.TheConstants.{LINE_BYTES}
use Rattle.el_base.specs.declared.config.Config.{Config}
use Rattle.el_base.specs.declared.config.ConfigFault.TheVariants.{Sets}
use Rattle.el_model.specs.State.{Hart, begin, new_hart}
use Rattle.elf_image.specs.Program.{Program}
use Rattle.rv_flat.specs.FlatState.{start}
use Rattle.snoop.proofs.Lent.{no_pool, residency_at, ways_at}
use Rattle.snoop.proofs.Laws.Living.{TellsSection}
use Rattle.snoop.specs.Shows.{IsReady, BusState, Shows}

-- a hart of those that are new, and what has its number elsewhere
abbrev hart_in : ℕ → ℕ → ℕ → Hart
hart_in harts sets h = slice_index_or (replicate harts (new_hart sets)) h (new_hart 0)

agents_new : (harts sets h : ℕ) →
    agent_at (replicate harts new_agent) h ≡ agent_of (slice_index_or (replicate harts (new_hart sets)) h (new_hart 0))
agents_new zero sets h = refl
agents_new (suc harts) sets zero = refl
agents_new (suc harts) sets (suc h) = agents_new harts sets h

caches_new : (harts ways sets h : ℕ) →
    (cache_at (replicate harts (empty_cached ways sets)) h).residency
    ≡ (slice_index_or (replicate harts (new_hart sets)) h (new_hart 0)).cache
caches_new zero ways sets h = refl
caches_new (suc harts) ways sets zero = refl
caches_new (suc harts) ways sets (suc h) = caches_new harts ways sets h

ways_new : (harts ways sets h : ℕ) → h < harts → (cache_at (replicate harts (empty_cached ways sets)) h).ways ≡ ways
ways_new zero ways sets h below = absurd (omega (arith, below))
ways_new (suc harts) ways sets zero below = refl
ways_new (suc harts) ways sets (suc h) below = ways_new harts ways sets h (omega (arith, below))

-- no new hart has a section, nor a bit in its cache
none_live : (harts sets h : ℕ) → TellsSection (slice_index_or (replicate harts (new_hart sets)) h (new_hart 0))
none_live zero sets h = record { live = refl; arms = refl }
none_live (suc harts) sets zero = record { live = rw (unmarked-empty sets) refl; arms = refl }
none_live (suc harts) sets (suc h) = none_live harts sets h

-- the parts of the bus before the first event
pub record IsNew (program : Program) (config : Config) (bus : BusState) : Type 0 where
  pub mode : bus.mode ≡ config.mode
  pub agents : bus.agents ≡ replicate config.harts new_agent
  pub caches : lent_all no_pool bus.copies.caches ≡ replicate config.harts (empty_cached config.ways config.sets)
  pub order : bus.order ≡ []
  pub first : bus.copies.first * LINE_BYTES ≡ program.base
  pub lines : length bus.copies.lines * LINE_BYTES ≡ length program.bytes

count_agents : (program : Program) (config : Config) (bus : BusState) → IsNew program config bus →
    length bus.agents ≡ config.harts
count_agents program config bus new = ap length new.agents ∙ length-replicate config.harts new_agent

count_caches : (program : Program) (config : Config) (bus : BusState) → IsNew program config bus →
    length bus.copies.caches ≡ config.harts
count_caches program config bus new =
    sym (length-lent no_pool bus.copies.caches) ∙ ap length new.caches
    ∙ length-replicate config.harts (empty_cached config.ways config.sets)

pub shows_first : (program : Program) (config : Config) (bus : BusState) → program.harts ≡ config.harts →
    IsNew program config bus → Shows bus (begin program config)
unfolding begin start
shows_first program config bus one_each new = record {
  mode = new.mode;
  ways = λ h below. sym (ways_at no_pool bus.copies.caches h) ∙ ap (λ caches. (cache_at caches h).ways) new.caches
      ∙ ways_new config.harts config.ways config.sets h (omega (arith, below, one_each, harts));
  agent_each = count_agents program config bus new ∙ sym one_each ∙ sym harts;
  cache_each = count_caches program config bus new ∙ sym one_each ∙ sym harts;
  agents = λ h. ap (λ agents. agent_at agents h) new.agents ∙ agents_new config.harts config.sets h
      ∙ ap (λ n. agent_of (hart_in n config.sets h)) (sym one_each);
  caches = λ h. sym (residency_at no_pool bus.copies.caches h)
      ∙ ap (λ caches. (cache_at caches h).residency) new.caches ∙ caches_new config.harts config.ways config.sets h
      ∙ ap (λ n. (hart_in n config.sets h).cache) (sym one_each);
  live = λ h. (none_live program.harts config.sets h).live;
  arms = λ h. (none_live program.harts config.sets h).arms;
  order = new.order;
  memory = record { first = new.first; lines = new.lines };
}
  where
    harts : length (replicate program.harts (new_hart config.sets)) ≡ program.harts
    harts = length-replicate program.harts (new_hart config.sets)

some_sets : (sets : ℕ) → allows Sets sets ≡ true → 0 < sets
some_sets zero is = absurd (cc)
some_sets (suc sets) is = omega arith

pub ready_first : (program : Program) (config : Config) (bus : BusState) → IsInRange config →
    IsNew program config bus → IsReady bus
ready_first program config bus in_range new = record {
  few = omega (arith, count_agents program config bus new, few_harts config.harts (ranges config in_range).harts);
  each = count_caches program config bus new ∙ sym (count_agents program config bus new);
  well_formed = λ h below.
      subst (λ cache. IsWellFormed cache.ways cache.residency)
      (ap (λ caches. cache_at caches h) (sym new.caches) ∙ lent_at no_pool bus.copies.caches h)
      (well_formed_new config.harts config.ways config.sets h (some_sets config.sets (ranges config in_range).sets)
      (omega (arith, below, count_caches program config bus new)));
  raised = λ h request is. absurd (not_some _ request (none_raised h) is);
  ordered = λ h request is. absurd (not_some _ request (none_ordered h) is);
  once = λ hart. rw new.order (omega arith);
  one_request = λ h request is. absurd (not_some _ request (none_raised h) is);
  few_armed = λ h. subst (λ agents. (agent_at agents h).armed ≤ 15) (sym new.agents) (none_armed config.harts h);
  unmarked = λ plain h.
      ap has_marks (sym (residency_at no_pool bus.copies.caches h))
      ∙ ap (λ caches. has_marks (cache_at caches h).residency) new.caches
      ∙ none_marked config.harts config.ways config.sets h;
}
  where
    well_formed_new : (harts ways sets h : ℕ) → 0 < sets → h < harts →
        IsWellFormed (cache_at (replicate harts (empty_cached ways sets)) h).ways
        (cache_at (replicate harts (empty_cached ways sets)) h).residency
    well_formed_new zero ways sets h some below = absurd (omega (arith, below))
    well_formed_new (suc harts) ways sets zero some below = well_formed-empty_cache ways sets some
    well_formed_new (suc harts) ways sets (suc h) some below =
        well_formed_new harts ways sets h some (omega (arith, below))

    asked_nothing : (harts h : ℕ) → (agent_at (replicate harts new_agent) h).raised ≡ None
    asked_nothing zero h = refl
    asked_nothing (suc harts) zero = refl
    asked_nothing (suc harts) (suc h) = asked_nothing harts h

    none_armed : (harts h : ℕ) → (agent_at (replicate harts new_agent) h).armed ≤ 15
    none_armed zero h = omega arith
    none_armed (suc harts) zero = omega arith
    none_armed (suc harts) (suc h) = none_armed harts h

    none_marked : (harts ways sets h : ℕ) →
        has_marks (cache_at (replicate harts (empty_cached ways sets)) h).residency ≡ false
    none_marked zero ways sets h = refl
    none_marked (suc harts) ways sets zero = unmarked-empty sets
    none_marked (suc harts) ways sets (suc h) = none_marked harts ways sets h

    none_raised : (h : ℕ) → (agent_at bus.agents h).raised ≡ None
    none_raised h = ap (λ agents. (agent_at agents h).raised) new.agents ∙ asked_nothing config.harts h

    none_ordered : (h : ℕ) → request_of bus.order h ≡ None
    none_ordered h = ap (λ order. request_of order h) new.order

    not_some : (found : Option Request) (request : Request) → found ≡ None → found ≡ Some request → ⊥
    not_some None request first second = absurd (cc)
    not_some (Some other) request first second = absurd (cc)
