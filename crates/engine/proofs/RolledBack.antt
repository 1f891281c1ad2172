-- the parts after a hart has rolled its section back
use Rattle.std.proofs.Common.{◌≡◌, ◌∙◌, ℕ, ◌<◌, ◌≤◌, length, None, is_some, refl, ap, sym, subst, arith}
use Rattle.std.specs.Prelude.{slice_set}
use Rattle.std.below.core.specs.declared.int.u64.TheConstants.{MAX}
use Rattle.std.proofs.lemmas.List.{get_or-set_same, length-set}
use Rattle.bus_agent.specs.Agent.{agent_at, agent_of}
use Rattle.residency.proofs.Laws.WellFormedLemmas.{well_formed-cleared}
use Rattle.residency.proofs.Laws.Unmarked.{unmarked-cleared}
use Rattle.residency.specs.Cache.{cleared, has_marks}
use Rattle.cache_sets.specs.Slotted.{Slotted}
use Rattle.residency.specs.WellFormed.{IsWellFormed}
use Rattle.coherence.proofs.Laws.Offered.{leaves_owner}
use Rattle.coherence.specs.Lent.{slotted_at}
use Rattle.el_base.proofs.Laws.Ranges.{at_most, ranges}
use Rattle.el_base.specs.declared.config.TheConstants.{MAX_STEPS}
use Rattle.el_base.specs.declared.hart_id.HartId.{HartId}
use Rattle.el_base.specs.declared.outcomes.Cause.{Cause}
use Rattle.el_base.specs.declared.outcomes.Outcome.TheVariants.{RolledBack}
use Rattle.el_model.proofs.Laws.Harts.{hart_of-with_hart_same}
use Rattle.el_model.specs.Attempts.{close_attempt}
use Rattle.el_model.specs.InSection.{RollsBack, by_section_rule, section_rule, section_turn}
use Rattle.el_model.specs.RollBack.{rolled_back}
use Rattle.el_model.specs.State.{Hart, ModelState, Section, armed_of, hart_of, with_hart}
use Rattle.engine.proofs.Framed.{IsClearedThere, told_copies, told_left, told_same}
use Rattle.engine.proofs.KeptLive.{keeps_live}
use Rattle.engine.proofs.Misses.{freed_here, freed_part, freed_then, is_there, set_twice}
use Rattle.engine.proofs.Others.{others_kept}
use Rattle.engine.proofs.Stepped.{HasStepped, IsBetween, IsCacheOf, after_step, StaysInPlace, ready_between}
use Rattle.engine.proofs.Stepped.{agent_unarmed, shows_between, stays_in_place}
use Rattle.engine.specs.Acting.{MayAct, freed}
use Rattle.engine.specs.Inside.{FollowsRule}
use Rattle.engine.specs.Lent.{KeepsCopies}
use Rattle.engine.specs.Parts.{IsInState, IsOfHart, KeepsSectionOf, Parts, own_at}
use Rattle.engine.specs.Reached.{IsReached}
use Rattle.hart_state.proofs.Laws.Harts.{rolled_back_is}
use Rattle.hart_state.specs.Deeds.{rolled_back_own}
use Rattle.hart_state.specs.Own.{HasOwn, OwnState, committed_pc, new_own}
use Rattle.line_pool.specs.Others.{LeavesOthers}
use Rattle.line_pool.specs.Pooled.{Pooled}
use Rattle.rv_flat.specs.FlatState.{no_hart, view_of}
use Rattle.snoop.proofs.Laws.Living.{lives_unarmed}
use Rattle.snoop.specs.Returned.{returned}
use Rattle.snoop.specs.Shows.{IsReady, BusState, Shows}
use Rattle.step_laws.proofs.Laws.Clocks.{clocks_are_few}
use Rattle.step_laws.specs.Clocks.{AreClocksUpTo}
use Rattle.write_hold.specs.Slotted.{IsLent}

-- the hart then
abbrev hart_then : ModelState → ℕ → Cause → Hart
hart_then from h cause = rolled_back cause (view_of from.committed h).pc (record (hart_of from h) { held_line = None })

by_rule : (from : ModelState) (h : ℕ) (section : Section) (cause : Cause) →
    by_section_rule from h section (RollsBack cause) ≡
    record { state = with_hart from h (hart_then from h cause); outcome = RolledBack cause }
unfolding by_section_rule
by_rule from h section cause = refl

pub rolls_turn : (from : ModelState) (h : ℕ) (section : Section) (cause : Cause) →
    section_rule from h section ≡ RollsBack cause → section_turn from h section
    ≡ record { state = with_hart from h (hart_then from h cause); outcome = RolledBack cause }
unfolding section_turn
rolls_turn from h section cause is = ap (by_section_rule from h section) is ∙ by_rule from h section cause

-- no clock comes near to the last one
clocks_up_to : (from : ModelState) (reached : IsReached from) → AreClocksUpTo (length reached.events) from
clocks_up_to from reached =
    subst (AreClocksUpTo (length reached.events)) (sym reached.state_is)
    (clocks_are_few reached.program reached.config reached.events)

few_events : (from : ModelState) (reached : IsReached from) → length reached.events ≤ MAX_STEPS
few_events from reached =
    let most = at_most 1 MAX_STEPS reached.config.steps (ranges reached.config reached.in_range).steps in
    omega (arith, reached.within, most)

pub clock_small : (parts : Parts) (h : ℕ) (from : ModelState) → MayAct parts h from →
    (agent_at parts.bus.agents h).clock < MAX
clock_small parts h from may =
    let small = (clocks_up_to from may.reached).harts h in
    let few = few_events from may.reached in
    let same : (agent_at parts.bus.agents h).clock ≡ (hart_of from h).clock =
    ap (λ agent. agent.clock) (may.is_in.shows.agents h)
    ∙ ap (λ hart. hart.clock) (freed_here from h (is_there parts from h may)) in
    omega (arith, small.of_clock, few, same)

pub seen_small : (parts : Parts) (h : ℕ) (from : ModelState) → MayAct parts h from →
    (agent_at parts.bus.agents h).seen < MAX
seen_small parts h from may =
    let small = (clocks_up_to from may.reached).harts h in
    let few = few_events from may.reached in
    let same : (agent_at parts.bus.agents h).seen ≡ (hart_of from h).seen =
    ap (λ agent. agent.seen) (may.is_in.shows.agents h)
    ∙ ap (λ hart. hart.seen) (freed_here from h (is_there parts from h may)) in
    omega (arith, small.of_seen, few, same)

-- an attempt that closes as the line is given up
pub between : (parts : Parts) (bus : BusState) (h : ℕ) (from : ModelState) → MayAct parts h from →
    Shows bus (with_hart (freed from h) h (close_attempt (hart_of (freed from h) h))) →
    IsBetween bus from (with_hart (freed from h) h (close_attempt (hart_of (freed from h) h))) h
    (close_attempt (record (hart_of from h) { held_line = None }))
between parts bus h from may shows =
    let below = is_there parts from h may in
    let there = subst (λ n. h < n) (sym (length-set from.harts h _)) below in
    record {
      there = subst (λ n. h < n) (sym (length-set (freed from h).harts h _)) there;
      shows = shows;
      here = hart_of-with_hart_same (freed from h) h _ there ∙ ap close_attempt (freed_here from h below);
      becomes = λ now. set_twice (freed from h) h _ now ∙ freed_then from h now;
      same = refl;
    }

-- the bus keeps the same of it, since it is not armed
agent_then : (from : ModelState) (h : ℕ) (cause : Cause) → armed_of from h ≡ None →
    agent_of (hart_then from h cause) ≡ agent_of (close_attempt (record (hart_of from h) { held_line = None }))
agent_then from h cause none = agent_unarmed (close_attempt (record (hart_of from h) { held_line = None })) none

has_cleared : (bus : BusState) (h : ℕ) (from between : ModelState) (cause : Cause) (cache : Slotted) →
    IsBetween bus from between h (close_attempt (record (hart_of from h) { held_line = None })) →
    IsClearedThere (slotted_at bus.copies.caches h) cache → IsCacheOf bus h cache (hart_then from h cause)
has_cleared bus h from between cause cache is clears = record {
  ways = clears.ways;
  residency = ap (λ c. cleared c) (sym (is.shows.caches h ∙ ap (λ hart. hart.cache) is.here)) ∙ sym clears.residency;
  live =
      sym (lives_unarmed cache.residency 0 refl ∙ ap has_marks clears.residency
      ∙ unmarked-cleared (slotted_at bus.copies.caches h).residency);
}

-- the parts then
abbrev parts_then : Parts → Pooled → BusState → ℕ → Slotted → Cause → Parts
parts_then old pool bus h cache cause = record old {
  pool = pool;
  bus = returned bus h cache;
  harts = slice_set old.harts h (rolled_back_own cause (own_at old.harts h));
}

own_then : (old : Parts) (pool : Pooled) (from : ModelState) (h : ℕ) (cause : Cause) → MayAct old h from →
    IsLent pool (rolled_back_own cause (own_at old.harts h)).section.hold →
    IsOfHart pool (with_hart from h (hart_then from h cause)) h (rolled_back_own cause (own_at old.harts h))
own_then old pool from h cause may lent =
    let own = own_at old.harts h in
    let was = may.is_in.harts h may.exists in
    let below = is_there old from h may in
    let here = hart_of-with_hart_same from h (hart_then from h cause) below in
    let part = freed_part old from h may in
    let pc : committed_pc own ≡ (view_of from.committed h).pc = ap (λ view. view.pc) was.view in
    record {
      part = subst (HasOwn (rolled_back_own cause own)) (sym here)
          (subst (λ p. HasOwn (rolled_back_own cause own)
          (rolled_back cause p (record (hart_of from h) { held_line = None }))) pc
          (rolled_back_is cause own (record (hart_of from h) { held_line = None }) part));
      view = was.view;
      section =
          subst (λ live. KeepsSectionOf pool (with_hart from h (hart_then from h cause)) h live
          (rolled_back_own cause own).section)
          (sym (ap (λ hart. hart.section) here)) tt;
      armed = tt;
      stands = record { unmarked = refl; empty = refl };
      limit = was.limit;
      owner = was.owner;
      lent = lent;
    }

-- what becomes of the pool: the hart's stores are given up, and all else is left
pub record GivesUpHold (old new : Pooled) (before after : OwnState) : Type 0 where
  pub lent : IsLent new after.section.hold
  pub others : LeavesOthers before.section.hold.owner old new

rolls_stepped : (old : Parts) (pool : Pooled) (bus : BusState) (from : ModelState) (h : ℕ) (cache : Slotted)
    (cause : Cause) → MayAct old h from → bus.copies ≡ old.bus.copies → h < length bus.copies.caches →
    KeepsCopies (slotted_at bus.copies.caches h) cache →
    GivesUpHold old.pool pool (own_at old.harts h) (rolled_back_own cause (own_at old.harts h)) →
    Shows (returned bus h cache) (with_hart from h (hart_then from h cause)) →
    HasStepped old (parts_then old pool bus h cache cause) h (with_hart from h (hart_then from h cause))
rolls_stepped old pool bus from h cache cause may copies inside keeps gives shows =
    let own = rolled_back_own cause (own_at old.harts h) in
    let none = new_own no_hart 0 0 in
    record {
      config = refl;
      span = refl;
      code = refl;
      output = refl;
      shows = shows;
      told =
          told_left old.pool pool (returned bus h cache) _
          (λ owner less. leaves_owner _ owner old.pool pool gives.others
          (λ same. absurd (omega (arith, same, less, (may.is_in.harts h may.exists).owner))))
          (told_same old.pool bus h cache _ (told_copies old.pool old.bus bus _ copies may.is_in.told) inside keeps);
      beside = λ owner apart other.
          leaves_owner _ owner old.pool pool gives.others (λ same. other (same ∙ (may.is_in.harts h may.exists).owner));
      each = length-set old.harts h own;
      own =
          subst (IsOfHart pool (with_hart from h (hart_then from h cause)) h)
          (sym (get_or-set_same old.harts h own none may.exists))
          (own_then old pool from h cause may gives.lent);
      others = others_kept old h from own from.committed may (λ g other. refl);
    }

inside_bus : (parts : Parts) (bus : BusState) (h : ℕ) (from between : ModelState) (hart : Hart) → MayAct parts h from →
    IsBetween bus from between h hart → length between.harts ≡ length from.harts → h < length bus.copies.caches
inside_bus parts bus h from between hart may is count =
    subst (λ n. h < n) (sym (is.shows.cache_each ∙ count)) (is_there parts from h may)

count_between : (from : ModelState) (h : ℕ) (hart : Hart) →
    length (with_hart (freed from h) h hart).harts ≡ length from.harts
count_between from h hart = length-set (freed from h).harts h hart ∙ length-set from.harts h _

-- the bus has the hart's cache, and is ready again
pub has_cache : (parts : Parts) (bus : BusState) (h : ℕ) (from : ModelState) → MayAct parts h from →
    Shows bus (with_hart (freed from h) h (close_attempt (hart_of (freed from h) h))) → h < length bus.copies.caches
has_cache parts bus h from may shows =
    inside_bus parts bus h from _ _ may (between parts bus h from may shows) (count_between from h _)

pub rolled_ready : (parts : Parts) (bus : BusState) (h : ℕ) (from : ModelState) (cache : Slotted) →
    MayAct parts h from → IsReady bus →
    Shows bus (with_hart (freed from h) h (close_attempt (hart_of (freed from h) h))) →
    IsClearedThere (slotted_at bus.copies.caches h) cache → IsReady (returned bus h cache)
rolled_ready parts bus h from cache may ready shows clears =
    let is = between parts bus h from may shows in
    let inside = has_cache parts bus h from may shows in
    let formed =
    well_formed-cleared (slotted_at bus.copies.caches h).ways (slotted_at bus.copies.caches h).residency
    (ready.well_formed h inside) in
    ready_between bus from _ h cache _ inside ready is refl refl may.free
    (subst (λ ways. IsWellFormed ways cache.residency) (sym clears.ways)
    (subst (IsWellFormed (slotted_at bus.copies.caches h).ways) (sym clears.residency) formed))
    (λ plain. ap has_marks clears.residency ∙ unmarked-cleared (slotted_at bus.copies.caches h).residency)

pub rolled_in : (old : Parts) (pool : Pooled) (bus : BusState) (hart : HartId) (from : ModelState) (section : Section)
    (cache : Slotted) (cause : Cause) → FollowsRule old hart.number from section (RollsBack cause) →
    Shows bus
    (with_hart (freed from hart.number) hart.number (close_attempt (hart_of (freed from hart.number) hart.number))) →
    bus.copies ≡ old.bus.copies → IsClearedThere (slotted_at bus.copies.caches hart.number) cache →
    GivesUpHold old.pool pool (own_at old.harts hart.number) (rolled_back_own cause (own_at old.harts hart.number)) →
    IsInState (parts_then old pool bus hart.number cache cause) (section_turn from hart.number section).state
rolled_in old pool bus hart from section cache cause follows shows copies clears gives =
    let h = hart.number in
    let may = follows.inside.may in
    let is = between old bus h from may shows in
    let turn = rolls_turn from h section cause follows.rule_is in
    let none = (keeps_live old h from section follows.inside).unarmed_there in
    let shown = shows_between bus from _ h cache _ (hart_then from h cause) (has_cache old bus h from may shows) is
    (agent_then from h cause none) (sym (ap is_some none)) (has_cleared bus h from _ cause cache is clears) in
    after_step old (parts_then old pool bus h cache cause) hart from section follows.inside
    (subst (λ t. StaysInPlace from.committed t.state.committed) (sym turn) (stays_in_place from.committed))
    (subst (λ t. HasStepped old (parts_then old pool bus h cache cause) h t.state) (sym turn)
    (rolls_stepped old pool bus from h cache cause may copies (has_cache old bus h from may shows)
    clears.keeps gives shown))
