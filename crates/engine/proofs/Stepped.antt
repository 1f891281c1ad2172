-- a step of a hart, and the parts after it
use Rattle.std.proofs.Common.{◌≡◌, ◌≢◌, ◌∙◌, ℕ, ◌≤◌, ◌<◌, ◌||◌, if◌then◌else◌, false, true, List, length}
use Rattle.std.proofs.Common.{Some, None, is_some, refl, ap, sym, subst, inl, inr}
use Rattle.std.specs.Prelude.{◌==◌, not, slice_set}
use Rattle.std.proofs.lemmas.Bool.{cases_eq}
use Rattle.std.proofs.lemmas.List.{length-set}
use Rattle.bus_agent.specs.Agent.{agent_noted, agent_of}
use Rattle.bus_order.specs.Order.{request_of}
use Rattle.residency.proofs.Laws.WellFormedLemmas.{well_formed-marked, well_formed-touched}
use Rattle.residency.proofs.Laws.MarkLemmas.{no_marks}
use Rattle.residency.specs.Cache.{has_marks, marked, read_bit, touched, write_bit}
use Rattle.residency.specs.Residency.{Way}
use Rattle.cache_sets.specs.Slotted.{Slotted}
use Rattle.residency.specs.WellFormed.{IsWellFormed}
use Rattle.coherence.specs.Beginning.{line_of}
use Rattle.coherence.specs.Lent.{slotted_at}
use Rattle.el_base.specs.declared.config.Mode.TheVariants.{Plain}
use Rattle.el_base.specs.declared.events.Event.{Event}
use Rattle.el_base.specs.declared.events.Kind.TheVariants as kinds
use Rattle.el_base.specs.declared.hart_id.HartId.{HartId}
use Rattle.el_base.specs.declared.outcomes.Need.TheVariants.{Read}
use Rattle.el_base.proofs.Laws.Cases.{true_false}
use Rattle.el_base.proofs.Laws.Options.{none_from_both}
use Rattle.el_model.proofs.Laws.Harts.{hart_of-with_hart_same}
use Rattle.el_model.specs.Armed.{armed_turn}
use Rattle.el_model.specs.InSection.{section_turn}
use Rattle.el_model.specs.Next.{going_turn, next, outside_turn, stalled, status_turn, step_turn}
use Rattle.el_model.specs.Plain.{armed_count}
use Rattle.el_model.specs.State.{Armed, Hart, ModelState, Section, Turn, armed_of, has_request, hart_of, ordered_of}
use Rattle.el_model.specs.State.{raised_of, section_of, with_hart}
use Rattle.engine.proofs.Framed.{hold_beside, own_left}
use Rattle.engine.proofs.Misses.{freed_each, freed_here, freed_then, is_there, set_twice}
use Rattle.engine.proofs.LentThere.{few_harts}
use Rattle.engine.proofs.Others.{IsSeenAs, others_stay}
use Rattle.engine.specs.Acting.{ActsArmed, ActsInside, MayAct, freed}
use Rattle.engine.specs.Beginning.{IsReadMarked}
use Rattle.engine.specs.Parts.{IsInState, IsOfHart, Parts, hold_owner, own_at}
use Rattle.hart_state.specs.Own.{OwnState}
use Rattle.line_pool.specs.Pooled.{Pooled}
use Rattle.rv_alu.specs.declared.view.HartStatus.TheVariants.{Running}
use Rattle.rv_flat.proofs.Laws.Shapes.{keeps_own_shape, span_kept}
use Rattle.rv_flat.specs.FlatState.{FlatState, status_of, view_of}
use Rattle.rv_flat.specs.Laws.{KeepsShape}
use Rattle.section_ctl.specs.Lent.{LeavesBeside}
use Rattle.snoop.proofs.Laws.Living.{lives_armed}
use Rattle.snoop.proofs.Laws.Returning.{ready_returned, shows_returned, unasked_returned}
use Rattle.snoop.specs.Asking.{HasNoRequest}
use Rattle.snoop.specs.Leaving.{LeavesNoted}
use Rattle.snoop.specs.LettingGo.{KeepsBytes}
use Rattle.snoop.specs.Returned.{returned}
use Rattle.snoop.specs.Shows.{IsReady, BusState, Shows, Tells, lives}
use Rattle.step_laws.proofs.Laws.Frames.{steps_keep_others}
use Rattle.step_laws.specs.Frames.{LeavesOthers}

-- the step of a hart
abbrev pub step_of : HartId → Event
step_of hart = record { kind = kinds.Step; hart = hart }

is_step : (state : ModelState) (hart : HartId) → next state (step_of hart) ≡ step_turn state hart.number
unfolding next
is_step state hart = refl

goes_on : (state : ModelState) (h : ℕ) (section : Section) → status_of state.committed h ≡ Running →
    has_request state h ≡ false → section_of state h ≡ Some section → step_turn state h ≡ section_turn state h section
unfolding step_turn
goes_on state h section running free live =
    ap (status_turn state h) running
    ∙ ap (λ waits. if waits then stalled state else going_turn state h (section_of state h)) free
    ∙ ap (going_turn state h) live

pub runs : (parts : Parts) (h : ℕ) (from : ModelState) → MayAct parts h from → status_of from.committed h ≡ Running
runs parts h from may = ap (λ view. view.status) (sym (may.is_in.harts h may.exists).view) ∙ may.running

armed_goes_on : (state : ModelState) (h : ℕ) (armed : Armed) → status_of state.committed h ≡ Running →
    has_request state h ≡ false → section_of state h ≡ None → armed_of state h ≡ Some armed →
    step_turn state h ≡ armed_turn state h armed
unfolding step_turn
armed_goes_on state h armed running free none is =
    ap (status_turn state h) running
    ∙ ap (λ waits. if waits then stalled state else going_turn state h (section_of state h)) free
    ∙ ap (going_turn state h) none ∙ ap (outside_turn state h) is

-- the event of a hart that acts in an armed section is its turn
pub armed_turn_is : (parts : Parts) (hart : HartId) (from : ModelState) (armed : Armed) →
    ActsArmed parts hart.number from armed → next from (step_of hart) ≡ armed_turn from hart.number armed
armed_turn_is parts hart from armed acts =
    is_step from hart
    ∙ armed_goes_on from hart.number armed (runs parts hart.number from acts.may) acts.may.free
    acts.no_section acts.armed_is

-- the event of a hart that acts in a section is the turn of its section
pub turn_is : (parts : Parts) (hart : HartId) (from : ModelState) (section : Section) →
    ActsInside parts hart.number from section → next from (step_of hart) ≡ section_turn from hart.number section
turn_is parts hart from section inside =
    is_step from hart ∙ goes_on from hart.number section (runs parts hart.number from inside.may)
    inside.may.free inside.live

-- memory lies where it did, with the same code, the same number of harts and the same output
pub record StaysInPlace (old new : FlatState) : Type 0 where
  pub shape : KeepsShape old new
  pub output : new.output ≡ old.output

pub stays_in_place : (flat : FlatState) → StaysInPlace flat flat
stays_in_place flat = record { shape = keeps_own_shape flat; output = refl }

-- what the parts of a hart that has stepped are in a state: the bus shows it, with its bytes, the hart keeps what is
-- its own, and the others what they kept, but for their committed views, and their slots of the pool
pub record HasStepped (old new : Parts) (h : ℕ) (state : ModelState) : Type 0 where
  pub config : new.config ≡ old.config
  pub span : new.span ≡ old.span
  pub code : new.code ≡ old.code
  pub output : new.output ≡ old.output
  pub shows : Shows new.bus state
  pub told : Tells new.pool new.bus (line_of state.committed)
  pub beside : LeavesBeside h (hold_owner h) old.pool new.pool
  pub each : length new.harts ≡ length old.harts
  pub own : IsOfHart new.pool state h (own_at new.harts h)
  pub others : (g : ℕ) → g ≢ h → g < length old.harts →
      IsSeenAs (own_at old.harts g) (own_at new.harts g) (view_of state.committed g)

-- these parts are in the state after the event
stepped_in : (old new : Parts) (hart : HartId) (from : ModelState) → MayAct old hart.number from →
    StaysInPlace from.committed (next from (step_of hart)).state.committed →
    HasStepped old new hart.number (next from (step_of hart)).state → IsInState new (next from (step_of hart)).state
stepped_in old new hart from may stays stepped =
    let state = (next from (step_of hart)).state in
    let left : LeavesOthers from state hart.number = steps_keep_others from (step_of hart) refl in
    record {
      config = stepped.config ∙ may.is_in.config ∙ sym left.config;
      span = stepped.span ∙ may.is_in.span ∙ sym (span_kept from.committed state.committed stays.shape);
      shows = stepped.shows;
      told = stepped.told;
      one_each = stepped.each ∙ freed_each old from hart.number may ∙ sym left.count;
      view_each = stepped.each ∙ may.is_in.view_each ∙ sym stays.shape.harts;
      harts = λ g below. elim (cases_eq g hart.number) [
        | inl own ↦ subst (λ k. IsOfHart new.pool state k (own_at new.harts k)) (sym own) stepped.own
        | inr other ↦
            let exists : g < length old.harts = subst (λ n. g < n) stepped.each below in
            own_left old.pool new.pool state g (own_at new.harts g)
            (hold_beside hart.number g old.pool new.pool stepped.beside (few_harts old hart.number from may) other)
            (others_stay old from (step_of hart) g (own_at new.harts g) may.reached may.is_in refl other exists
            (stepped.others g other exists))
      ];
      code = stepped.code ∙ may.is_in.code ∙ sym stays.shape.code;
      output = stepped.output ∙ may.is_in.output ∙ sym stays.output;
    }

-- so they are in that after a turn that the event is
pub after_turn : (old new : Parts) (hart : HartId) (from : ModelState) (turn : Turn) → MayAct old hart.number from →
    next from (step_of hart) ≡ turn → StaysInPlace from.committed turn.state.committed →
    HasStepped old new hart.number turn.state → IsInState new turn.state
after_turn old new hart from turn may is stays stepped =
    subst (λ t. IsInState new t.state) is
    (stepped_in old new hart from may (subst (λ t. StaysInPlace from.committed t.state.committed) (sym is) stays)
    (subst (λ t. HasStepped old new hart.number t.state) (sym is) stepped))

pub after_step : (old new : Parts) (hart : HartId) (from : ModelState) (section : Section) →
    ActsInside old hart.number from section →
    StaysInPlace from.committed (section_turn from hart.number section).state.committed →
    HasStepped old new hart.number (section_turn from hart.number section).state →
    IsInState new (section_turn from hart.number section).state
after_step old new hart from section inside stays stepped =
    after_turn old new hart from (section_turn from hart.number section) inside.may
    (turn_is old hart from section inside) stays stepped

-- what one hart keeps has changed, and then the bus has, in parts whose bus has
pub put_in : (old mid : Parts) (between bus : BusState) (h i : ℕ) (own now : OwnState) →
    mid ≡ record old { bus = between } → i ≡ h → own ≡ now →
    record mid { bus = bus; harts = slice_set mid.harts i own }
    ≡ record old { bus = bus; harts = slice_set old.harts h now }
put_in old mid between bus h i own now same at is =
    ap {A = Parts} (λ p. record p { bus = bus; harts = slice_set p.harts i own }) same
    ∙ ap (λ n. record old { bus = bus; harts = slice_set old.harts n own }) at
    ∙ ap (λ o. record old { bus = bus; harts = slice_set old.harts h o }) is

pub set_in : (old mid : Parts) (bus : BusState) (h i : ℕ) (own now : OwnState) → mid ≡ record old { bus = bus } →
    i ≡ h → own ≡ now → record mid { harts = slice_set mid.harts i own }
    ≡ record old { bus = bus; harts = slice_set old.harts h now }
set_in old mid bus h i own now same at is =
    ap {A = BusState} (λ b. record mid { bus = b; harts = slice_set mid.harts i own }) (ap (λ p. p.bus) same)
    ∙ put_in old mid bus bus h i own now same at is

-- the state between, in which the hart at the bus is already what it will be, and then another
pub record IsBetween (bus : BusState) (from between : ModelState) (h : ℕ) (hart : Hart) : Type 0 where
  pub there : h < length between.harts
  pub shows : Shows bus between
  pub here : hart_of between h ≡ hart
  pub becomes : (now : Hart) → with_hart between h now ≡ with_hart from h now
  pub same : between.committed ≡ from.committed

-- the state in which the hart has given up what it held is one
pub freed_between : (parts : Parts) (h : ℕ) (from : ModelState) → MayAct parts h from →
    IsBetween parts.bus from (freed from h) h (record (hart_of from h) { held_line = None })
freed_between parts h from may =
    let below = is_there parts from h may in
    record {
      there = subst (λ n. h < n) (sym (length-set from.harts h (record (hart_of from h) { held_line = None }))) below;
      shows = may.is_in.shows;
      here = freed_here from h below;
      becomes = freed_then from h;
      same = refl;
    }

-- the hart has become another, and the bus shows it
became : (old bus : BusState) (from between : ModelState) (h : ℕ) (hart now : Hart) →
    IsBetween old from between h hart → Shows bus (with_hart from h now) →
    IsBetween bus from (with_hart from h now) h now
became old bus from between h hart now is shows =
    let count : length (with_hart from h now).harts ≡ length between.harts =
    sym (ap (λ s. length s.harts) (is.becomes now)) ∙ length-set between.harts h now in
    let there = subst (λ n. h < n) (sym count) is.there in
    record {
      there = there;
      shows = shows;
      here = hart_of-with_hart_same from h now (subst (λ n. h < n) (length-set from.harts h now) there);
      becomes = λ later. set_twice from h now later;
      same = refl;
    }

-- a cache that is given back is that of what its hart has become
pub record IsCacheOf (bus : BusState) (h : ℕ) (cache : Slotted) (now : Hart) : Type 0 where
  pub ways : cache.ways ≡ (slotted_at bus.copies.caches h).ways
  pub residency : now.cache ≡ cache.residency
  pub live : is_some now.section ≡ lives cache.residency (armed_count now.armed)

pub shows_between : (bus : BusState) (from between : ModelState) (h : ℕ) (cache : Slotted) (hart now : Hart) →
    h < length bus.copies.caches → IsBetween bus from between h hart → agent_of now ≡ agent_of hart →
    is_some now.armed ≡ is_some hart.armed → IsCacheOf bus h cache now →
    Shows (returned bus h cache) (with_hart from h now)
shows_between bus from between h cache hart now inside is agent armed same =
    subst (Shows (returned bus h cache)) (is.becomes now)
    (shows_returned bus between h cache now between.committed inside is.shows
    (record {
      agent = agent ∙ ap agent_of (sym is.here);
      ways = same.ways;
      residency = same.residency;
      live = same.live;
      armed = armed ∙ sym (ap (λ k. is_some k.armed) is.here);
      memory = is.shows.memory;
    }))

-- a hart that is not armed has no count at the bus
pub agent_unarmed : (hart : Hart) → hart.armed ≡ None → record (agent_of hart) { armed = 0 } ≡ agent_of hart
agent_unarmed hart none = ap (λ armed. record (agent_of hart) { armed = armed_count armed }) (sym none)

-- what is committed has changed, and memory is as it was
pub shows_committed : (bus : BusState) (state : ModelState) (committed : FlatState) →
    KeepsBytes state.committed committed → Shows bus state → Shows bus (record state { committed = committed })
shows_committed bus state committed keeps shows = record {
  mode = shows.mode;
  ways = shows.ways;
  agent_each = shows.agent_each;
  cache_each = shows.cache_each;
  agents = shows.agents;
  caches = shows.caches;
  live = shows.live;
  arms = shows.arms;
  order = shows.order;
  memory =
      record { first = shows.memory.first ∙ sym keeps.base; lines = shows.memory.lines ∙ ap length (sym keeps.bytes) };
}

-- and what was told is told
pub told_committed : (pool : Pooled) (bus : BusState) (old new : FlatState) → KeepsBytes old new →
    Tells pool bus (line_of old) → Tells pool bus (line_of new)
told_committed pool bus old new keeps told = rw (keeps.base, keeps.bytes) told

-- the same as a state between
pub returned_between : (bus : BusState) (from between : ModelState) (h : ℕ) (cache : Slotted) (hart now : Hart) →
    h < length bus.copies.caches → IsBetween bus from between h hart → agent_of now ≡ agent_of hart →
    is_some now.armed ≡ is_some hart.armed → IsCacheOf bus h cache now →
    IsBetween (returned bus h cache) from (with_hart from h now) h now
returned_between bus from between h cache hart now inside is agent armed same =
    became bus (returned bus h cache) from between h hart now is
    (shows_between bus from between h cache hart now inside is agent armed same)

-- a hart's count was noted at the bus, as the hart has become another
pub noted_between : (old bus : BusState) (from between : ModelState) (h count : ℕ) (hart now : Hart) →
    IsBetween old from between h hart → LeavesNoted h count old bus → agent_of now ≡ agent_noted count (agent_of hart) →
    now.cache ≡ hart.cache → is_some now.armed ≡ not (count == 0) → is_some now.section ≡ lives now.cache count →
    IsBetween bus from (with_hart from h now) h now
noted_between old bus from between h count hart now is noted agent cache armed live =
    became old bus from between h hart now is
    (subst (Shows bus) (is.becomes now)
    (noted.shows between now is.shows
    (record {
      agent = agent ∙ ap (λ k. agent_noted count (agent_of k)) (sym is.here);
      cache = cache ∙ ap (λ k. k.cache) (sym is.here);
      armed = armed;
      live = live;
    })))

-- a hart that acts waits for nothing, at the bus either
pub free_between : (bus : BusState) (from between : ModelState) (h : ℕ) (hart : Hart) →
    IsBetween bus from between h hart → hart.raised ≡ raised_of from h → between.order ≡ from.order →
    has_request from h ≡ false → HasNoRequest bus h
free_between bus from between h hart is raised order free =
    let none = none_from_both (raised_of from h) (ordered_of from h) free in
    record {
      none_raised = ap (λ agent. agent.raised) (is.shows.agents h) ∙ ap (λ k. k.raised) is.here ∙ raised ∙ none.0;
      none_ordered = ap (λ requests. request_of requests h) (is.shows.order ∙ order) ∙ none.1;
    }

-- so the bus is ready with any well-formed cache that in the plain mode has no bit
pub ready_between : (bus : BusState) (from between : ModelState) (h : ℕ) (cache : Slotted) (hart : Hart) →
    h < length bus.copies.caches → IsReady bus → IsBetween bus from between h hart → hart.raised ≡ raised_of from h →
    between.order ≡ from.order → has_request from h ≡ false → IsWellFormed cache.ways cache.residency →
    (bus.mode ≡ Plain → has_marks cache.residency ≡ false) → IsReady (returned bus h cache)
ready_between bus from between h cache hart inside ready is raised order free formed unmarked =
    ready_returned bus h cache inside ready
    (unasked_returned bus h cache (free_between bus from between h hart is raised order free) formed unmarked)

-- a line that was read in a section is so in no plain mode
pub read_not_plain : (bus : BusState) (h line : ℕ) (cache : List (List Way)) → IsReady bus →
    (slotted_at bus.copies.caches h).residency ≡ cache → read_bit cache line ≡ true → bus.mode ≢ Plain
read_not_plain bus h line cache ready is read plain =
    true_false
    (sym (ap (λ first. first || write_bit cache line) read)
    ∙ no_marks cache line (ap has_marks (sym is) ∙ ready.unmarked plain h))

-- a line got the read bit in the cache of a hart, and became the most recent one, as the hart became another
pub marked_cache : (bus : BusState) (h line : ℕ) (cache : Slotted) (from between : ModelState) (hart now : Hart) →
    IsBetween bus from between h hart → IsReadMarked (slotted_at bus.copies.caches h) cache line →
    now.cache ≡ touched (marked hart.cache line Read) line → is_some now.section ≡ false → 1 ≤ armed_count now.armed →
    IsCacheOf bus h cache now
marked_cache bus h line cache from between hart now is marks same none some =
    let residency =
    same ∙ ap (λ c. touched (marked c line Read) line) (sym (is.shows.caches h ∙ ap (λ k. k.cache) is.here))
    ∙ sym marks.residency in
    record {
      ways = marks.ways;
      residency = residency;
      live = none ∙ sym (lives_armed cache.residency (armed_count now.armed) some);
    }

pub marked_formed : (bus : BusState) (h line : ℕ) (cache : Slotted) → h < length bus.copies.caches → IsReady bus →
    IsReadMarked (slotted_at bus.copies.caches h) cache line → IsWellFormed cache.ways cache.residency
marked_formed bus h line cache inside ready marks =
    let was = slotted_at bus.copies.caches h in
    subst (λ ways. IsWellFormed ways cache.residency) (sym marks.ways)
    (subst (IsWellFormed was.ways) (sym marks.residency)
    (well_formed-touched was.ways (marked was.residency line Read) line
    (well_formed-marked was.ways was.residency line Read (ready.well_formed h inside))))
