-- what an action leaves that ran in the cache of its hart, from a state in which the hart acts outside of a section
use Rattle.std.proofs.Common.{◌≡◌, ◌∙◌, ℕ, Bool, true, Option, Some, None, is_some, refl, ap, sym, subst}
use Rattle.std.specs.Prelude.{◌&&◌, ◌==◌}
use Rattle.bus_agent.specs.Agent.{agent_of}
use Rattle.residency.specs.Cache.{is_resident}
use Rattle.cache_sets.specs.Cached.{Cached, bytes_of, cached_byte}
use Rattle.cache_sets.specs.Slotted.{Slotted, lent}
use Rattle.cached_step.proofs.Laws.CachedBytes.{same_bytes}
use Rattle.cached_step.proofs.Laws.Rooms.{stays_in_form}
use Rattle.cached_step.proofs.Laws.Told.{performs_flat, tells_memory_after}
use Rattle.coherence.specs.Beginning.{line_of}
use Rattle.step_rules.proofs.Laws.Begins.{readable_there}
use Rattle.cached_step.specs.CacheRun.{HasRun, permitted}
use Rattle.coherence.proofs.Laws.Fetched.{copy_resident}
use Rattle.coherence.proofs.Laws.GivenBackLaws.{copy_tells}
use Rattle.coherence.proofs.Laws.Owners.{copy_is}
use Rattle.coherence.specs.GivenBack.{copies_with}
use Rattle.coherence.specs.Served.{TellsOf}
use Rattle.core_step.proofs.Laws.Runs.{is_permitted}
use Rattle.core_step.specs.Run.{lacking}
use Rattle.el_base.specs.Line.{line_number}
use Rattle.el_base.specs.declared.outcomes.Need.TheVariants.{Read}
use Rattle.el_model.specs.Plain.{acquire_pc, after_candidate, after_touch, armed_count, candidate_of, last_reserve}
use Rattle.el_model.specs.Plain.{ran_hart, watched}
use Rattle.el_model.specs.State.{Hart, ModelState, hart_of}
use Rattle.el_model.specs.Upcoming.{Swap, touch_of}
use Rattle.el_model.proofs.Laws.HartParts.{candidate_armed, candidate_cache, candidate_section}
use Rattle.coherence.proofs.Laws.Offered.{leaves_owner}
use Rattle.engine.proofs.Framed.{told_back}
use Rattle.engine.proofs.LeftBehind.{TellsPiece}
use Rattle.engine.proofs.Misses.{freed_here, freed_then, own_cache}
use Rattle.engine.proofs.StandsOutside.{action_is, has_cache, in_memory, inside, lent_here, none_armed, none_marked}
use Rattle.engine.proofs.StandsOutside.{runs_there, tells_there, view_is}
use Rattle.engine.specs.Acting.{ActsOutside, cache_in, freed, next_action, sets_in}
use Rattle.engine.specs.Effect.{CanAppend}
use Rattle.engine.specs.Outside.{HasRunOver, execution_in}
use Rattle.engine.specs.Parts.{Parts, hold_owner, present_at, room_in}
use Rattle.hart_state.specs.Deeds.{candidate_own, own_acquire_pc, ran_own}
use Rattle.hart_state.specs.Own.{OwnState}
use Rattle.line_pool.specs.Pooled.{Pooled}
use Rattle.section_ctl.specs.Lent.{LeavesBeside}
use Rattle.rv_alu.specs.Execution.{perform, store_in}
use Rattle.rv_alu.specs.Footprint.{IsInPlace, footprint}
use Rattle.rv_alu.specs.declared.action.Action.{Action}
use Rattle.rv_alu.specs.declared.action.Action.TheVariants as actions
use Rattle.rv_alu.specs.declared.span.Span.{Span}
use Rattle.rv_flat.proofs.Laws.StepLaws.{keeps_shape, running}
use Rattle.rv_flat.specs.FlatState.{room_of, span_of, view_of}
use Rattle.rv_flat.specs.Step.{action_of, applied, execution_of, flat}
use Rattle.snoop.proofs.Laws.Returning.{ready_returned, shows_returned, unasked_returned}
use Rattle.snoop.specs.Asking.{HasNoRequest}
use Rattle.snoop.specs.Returned.{IsReturnedAs, returned, state_with}
use Rattle.snoop.specs.Shows.{IsReady, Shows, Tells, lent_copies}

-- what a candidate leaves of a hart, and learning of what the hart keeps
candidate_agent : (pc : Option ℕ) (had : Bool) (swap : Option Swap) (hart : Hart) →
    agent_of (after_candidate pc had swap hart) ≡ agent_of hart
candidate_agent pc had None hart = refl
candidate_agent pc had (Some swap) hart = refl

candidate_kept : (pc : Option ℕ) (had : Bool) (swap : Option Swap) (own : OwnState) →
    (candidate_own pc had swap own).section ≡ own.section
candidate_kept pc had None own = refl
candidate_kept pc had (Some swap) own = refl

pub ran_kept : (state : ModelState) (h : ℕ) (own : OwnState) → (ran_own state h own).section ≡ own.section
ran_kept state h own =
    candidate_kept (own_acquire_pc state h own) (is_some own.predictor.watch) (candidate_of state h)
    (record own {
      last_lr = last_reserve state h own.last_lr;
      predictor = watched state h own.predictor own.predictor.watch;
    })

-- the hart then
abbrev pub hart_ran : ModelState → ℕ → Action → Hart
hart_ran state h action = ran_hart state h (touch_of (footprint action)) (hart_of state h)

-- the state then
abbrev pub state_ran : ModelState → ℕ → Action → ModelState
state_ran state h action = state_with state h (hart_ran state h action) (flat state.committed h)

abbrev seen_hart : ModelState → ℕ → Action → Hart
seen_hart state h action =
    let hart = hart_of state h in
    record hart {
      last_lr = last_reserve state h hart.last_lr;
      held_line = None;
      cache = after_touch hart.cache (touch_of (footprint action));
      predictor = watched state h hart.predictor hart.predictor.watch;
    }

module _ (parts : Parts) (h : ℕ) (state : ModelState) (action : Action) (acts : ActsOutside parts h state)
    (is : action ≡ next_action parts h) (place : IsInPlace parts.span (room_in parts) action)
    (none : lacking (permitted (cache_in parts h)) (footprint action) ≡ None) (pool : Pooled) (cache : Slotted)
    (over : HasRunOver parts h action pool cache) where
  abbrev after : Cached
  after = lent pool cache

  -- over the cache it does what it does over plain memory
  pub same_execution : execution_in parts h action ≡ execution_of state.committed (view_of state.committed h)
  same_execution =
      let view = view_of state.committed h in
      let bytes = cached_byte (cache_in parts h) in
      let same : action ≡ action_of state.committed view = is ∙ action_is parts h state acts in
      ap (λ v. perform action v bytes) (view_is parts h state acts)
      ∙ ap (λ a. perform a view bytes) same
      ∙ subst (λ c. perform (action_of state.committed view) view (cached_byte c) ≡ execution_of state.committed view)
      (lent_here parts h state acts)
      (performs_flat (lent_copies parts.pool parts.bus.copies) state.committed h view (tells_there parts h state acts)
      (subst (IsInPlace (span_of state.committed) (room_of state.committed)) same
      (in_memory parts h state acts action place))
      (subst (λ c. lacking (permitted c) (footprint (action_of state.committed view)) ≡ None)
      (sym (lent_here parts h state acts))
      (subst (λ a. lacking (permitted (cache_in parts h)) (footprint a) ≡ None) same none)))

  -- caches and main memory tell the bytes after it
  tells_after : TellsOf (copies_with (lent_copies parts.pool parts.bus.copies) h after)
      (line_of (flat state.committed h))
  tells_after =
      let view = present_at parts.harts h in
      let copies = lent_copies parts.pool parts.bus.copies in
      let told =
      tells_memory_after copies state.committed h (room_of state.committed) after action view
      (cached_byte (cache_in parts h))
      (tells_there parts h state acts) (in_memory parts h state acts action place)
      (subst (λ c. HasRun c after action (store_in (execution_in parts h action))) (sym (lent_here parts h state acts))
      over.has_run) in
      subst (λ s. TellsOf (copies_with copies h after) (line_of s))
      (ap (λ v. applied state.committed h v (execution_in parts h action)) (view_is parts h state acts)
      ∙ ap (applied state.committed h (view_of state.committed h)) same_execution
      ∙ sym (running state.committed h (runs_there parts h state acts)))
      told.bytes

  -- the pool leaves what it has of all others
  pub leaves : LeavesBeside h (hold_owner h) parts.pool pool
  leaves owner apart other =
      leaves_owner (sets_in parts h).owner owner parts.pool pool over.others
      (λ same. apart (same ∙ acts.may.is_in.told.lent.owned h (has_cache parts h state acts)))

  pub ran_told : Tells pool (returned parts.bus h cache) (line_of (flat state.committed h))
  ran_told =
      told_back parts.pool pool parts.bus h cache _ _ acts.may.is_in.told (has_cache parts h state acts) over.owner
      over.kept leaves tells_after

  agent_stays : agent_of (hart_ran state h action) ≡ agent_of (hart_of (freed state h) h)
  agent_stays =
      candidate_agent (acquire_pc state h) (is_some (hart_of state h).predictor.watch) (candidate_of state h)
      (seen_hart state h action)
      ∙ ap agent_of (sym (freed_here state h (inside parts h state acts)))

  cache_is : (hart_ran state h action).cache ≡ cache.residency
  cache_is =
      candidate_cache (acquire_pc state h) (is_some (hart_of state h).predictor.watch) (candidate_of state h)
      (seen_hart state h action)
      ∙ ap (λ c. after_touch c (touch_of (footprint action)))
      (sym (own_cache parts state h acts.may))
      ∙ sym over.has_run.residency

  pub section_none : (hart_ran state h action).section ≡ None
  section_none =
      candidate_section (acquire_pc state h) (is_some (hart_of state h).predictor.watch) (candidate_of state h)
      (seen_hart state h action)
      ∙ acts.no_section

  pub armed_none : (hart_ran state h action).armed ≡ None
  armed_none =
      candidate_armed (acquire_pc state h) (is_some (hart_of state h).predictor.watch) (candidate_of state h)
      (seen_hart state h action)
      ∙ acts.no_armed

  returns_as : IsReturnedAs parts.bus (freed state h) h cache (hart_ran state h action) (flat state.committed h)
  returns_as =
      let keeps = keeps_shape state.committed h in
      record {
        agent = agent_stays;
        ways = over.has_run.ways;
        residency = cache_is;
        live =
            ap is_some section_none
            ∙ sym (ap (λ marks. marks && (armed_count (hart_ran state h action).armed == 0))
            ((stays_in_form (cache_in parts h) after action _
            (acts.may.ready.well_formed h (has_cache parts h state acts)) over.has_run).marks
            ∙ none_marked parts h state acts));
        armed = ap is_some armed_none ∙ sym (ap is_some (none_armed parts h state acts));
        memory = record {
          first = acts.may.is_in.shows.memory.first ∙ sym keeps.base;
          lines = acts.may.is_in.shows.memory.lines ∙ sym keeps.length_of_bytes;
        };
      }

  pub ran_shows : Shows (returned parts.bus h cache) (state_ran state h action)
  ran_shows =
      subst (Shows (returned parts.bus h cache))
      (ap {A = ModelState} (λ s. record s { committed = flat state.committed h })
      (freed_then state h (hart_ran state h action)))
      (shows_returned parts.bus (freed state h) h cache (hart_ran state h action) (flat state.committed h)
      (has_cache parts h state acts)
      acts.may.is_in.shows returns_as)

  pub ran_ready : HasNoRequest parts.bus h → IsReady (returned parts.bus h cache)
  ran_ready none_asked =
      let form =
      stays_in_form (cache_in parts h) after action _ (acts.may.ready.well_formed h (has_cache parts h state acts))
      over.has_run in
      ready_returned parts.bus h cache (has_cache parts h state acts) acts.may.ready
      (unasked_returned parts.bus h cache none_asked form.well_formed
      (λ plain. form.marks ∙ none_marked parts h state acts))

-- the bytes that an action appends are there, and are those of memory
append_there : (parts : Parts) (h address len : ℕ) →
    lacking (permitted (cache_in parts h)) (footprint (actions.Append address len)) ≡ None →
    is_resident (cache_in parts h).residency (line_number address) ≡ true
append_there parts h address len none =
    readable_there (cache_in parts h).residency (line_number address)
    (is_permitted (permitted (cache_in parts h)) (line_number address) Read none)

pub can_append : (parts : Parts) (h room : ℕ) (span : Span) (action : Action) (cache : Cached) →
    IsInPlace span room action → lacking (permitted (cache_in parts h)) (footprint action) ≡ None →
    HasRun (cache_in parts h) cache action (store_in (execution_in parts h action)) → CanAppend cache room action
can_append parts h room span (actions.Append address len) cache place none run = record {
  resident = copy_resident cache (line_number address) _ (run.copies (line_number address)
      ∙ copy_is (cache_in parts h) (line_number address) (append_there parts h address len none));
  one_line = place.0.one_line;
  room = place.1;
}
can_append parts h room span (actions.Trap cause) cache place none run = tt
can_append parts h room span (actions.Exit code) cache place none run = tt
can_append parts h room span (actions.Put rd value) cache place none run = tt
can_append parts h room span (actions.JumpAndLink rd target) cache place none run = tt
can_append parts h room span (actions.Go target) cache place none run = tt
can_append parts h room span (actions.Answer value) cache place none run = tt
can_append parts h room span (actions.Load width rd address) cache place none run = tt
can_append parts h room span (actions.LoadReserved rd address) cache place none run = tt
can_append parts h room span (actions.Store address len value) cache place none run = tt
can_append parts h room span (actions.StoreConditional rd address value) cache place none run = tt
can_append parts h room span (actions.Fail rd) cache place none run = tt
can_append parts h room span (actions.Amo op rd address source) cache place none run = tt

pub tells_piece : (parts : Parts) (h : ℕ) (state : ModelState) (action : Action) (cache : Cached) →
    ActsOutside parts h state → lacking (permitted (cache_in parts h)) (footprint action) ≡ None →
    HasRun (cache_in parts h) cache action (store_in (execution_in parts h action)) →
    TellsPiece cache state.committed action
tells_piece parts h state (actions.Append address len) cache acts none run =
    same_bytes (cache_in parts h) cache (line_number address) (run.copies (line_number address))
    ∙ subst (λ c. bytes_of c (line_number address) ≡ line_of state.committed (line_number address))
    (lent_here parts h state acts)
    (copy_tells (lent_copies parts.pool parts.bus.copies) h (line_number address) (line_of state.committed)
    acts.may.is_in.told.told
    (subst (λ (c : Cached). is_resident c.residency (line_number address) ≡ true) (sym (lent_here parts h state acts))
    (append_there parts h address len none)))
tells_piece parts h state (actions.Trap cause) cache acts none run = tt
tells_piece parts h state (actions.Exit code) cache acts none run = tt
tells_piece parts h state (actions.Put rd value) cache acts none run = tt
tells_piece parts h state (actions.JumpAndLink rd target) cache acts none run = tt
tells_piece parts h state (actions.Go target) cache acts none run = tt
tells_piece parts h state (actions.Answer value) cache acts none run = tt
tells_piece parts h state (actions.Load width rd address) cache acts none run = tt
tells_piece parts h state (actions.LoadReserved rd address) cache acts none run = tt
tells_piece parts h state (actions.Store address len value) cache acts none run = tt
tells_piece parts h state (actions.StoreConditional rd address value) cache acts none run = tt
tells_piece parts h state (actions.Fail rd) cache acts none run = tt
tells_piece parts h state (actions.Amo op rd address source) cache acts none run = tt
