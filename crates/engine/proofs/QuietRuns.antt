-- a quiet action outside of a section that no watch sees: it runs, and changes its hart's view alone
use Rattle.std.proofs.Common.{◌≡◌, ◌∙◌, ℕ, ◌++◌, true, false, [], Option, Some, None, is_some, refl, ap, sym}
use Rattle.std.proofs.Common.{append-nil, subst}
use Rattle.std.specs.Prelude.{if◌then◌else◌, is_none, slice_set}
use Rattle.std.proofs.lemmas.List.{set-get_or}
use Rattle.cache_sets.specs.Cached.{Cached, cached_byte}
use Rattle.cached_step.specs.CacheRun.{CopiesAfter, permitted}
use Rattle.coherence.specs.Lent.{no_slotted}
use Rattle.core_step.specs.Run.{lacking}
use Rattle.el_base.specs.declared.hart_id.HartId.{HartId}
use Rattle.el_base.specs.declared.outcomes.Outcome.TheVariants.{Ran}
use Rattle.el_base.proofs.Laws.Options.{none_either}
use Rattle.el_model.specs.Plain.{Runs, after_touch, candidate_of, if_candidate, last_reserve, may_elide, plain_rule}
use Rattle.el_model.specs.Plain.{plain_turn, reserve_rule, swap_rule, touch_rule, watched}
use Rattle.el_model.specs.State.{ModelState, hart_of}
use Rattle.el_model.specs.Upcoming.{is_load_reserved, next_reserved, next_swap, touch_of}
use Rattle.engine.proofs.Chosen.{lacks_nothing, next}
use Rattle.engine.proofs.Outsiders.{ran_outcome, turn_is}
use Rattle.engine.proofs.RunsNext.{after_ran, learnt, ready_ran, with_effect}
use Rattle.engine.proofs.StandsOutside.{lends}
use Rattle.engine.specs.Acting.{ActsOutside, cache_in, next_action, sets_in}
use Rattle.engine.specs.Effect.{piece_in, unreserved_on}
use Rattle.engine.specs.Outside.{HasRunOver, OutsideSomewhere, RanIn, execution_in}
use Rattle.engine.specs.Parts.{IsInState, Parts, own_at, present_at, room_in}
use Rattle.engine.specs.Turns.{TakesTurn}
use Rattle.hart_state.specs.Deeds.{candidate_own, own_acquire_pc, ran_own}
use Rattle.hart_state.specs.Lending.{with_view}
use Rattle.hart_state.specs.Own.{OwnState, new_own}
use Rattle.pair_table.specs.Predictor.{Watch}
use Rattle.rv_alu.specs.Execution.{loads, perform, store_in, view_after}
use Rattle.rv_alu.specs.Footprint.{IsInPlace, footprint}
use Rattle.rv_alu.specs.declared.action.Action.{Action}
use Rattle.rv_alu.specs.declared.action.Action.TheVariants as actions
use Rattle.rv_alu.specs.declared.footprint.Access.TheVariants.{Nothing}
use Rattle.rv_alu.specs.declared.span.Span.{Span}
use Rattle.rv_alu.specs.declared.view.HartView.{HartView}
use Rattle.rv_flat.specs.FlatState.{no_hart, view_of}
use Rattle.rv_flat.specs.Laws.{next_insn, written_line}
use Rattle.rv_flat.specs.Memory.{byte_in}
use Rattle.snoop.specs.Asking.{HasNoRequest}
use Rattle.snoop.specs.Shows.{IsReady}
use Rattle.step_rules.proofs.Laws.NextAction.{next_call_or_stop, next_exchange as exchange_next}
use Rattle.step_rules.proofs.Laws.NextAction.{next_reserved as reserve_next, next_swap as swap_next}
use Rattle.step_rules.proofs.Laws.NextAction.{next_touch as touch_next, reserves_going}
use Rattle.step_rules.specs.Actions.{IsNext, exchange_by, is_call_or_stop, quiet, reserved_by, swap_by}

none_watches : (watch : Option Watch) → is_none watch ≡ true → watch ≡ None
none_watches None is = refl
none_watches (Some watch) is = absurd (cc)

-- a quiet action leaves all but its hart's view alone
pub record ChangesViewAlone (action : Action) : Type 0 where
  pub touches : footprint action ≡ Nothing
  pub goes : is_call_or_stop action ≡ false
  pub reserves : reserved_by action ≡ None
  pub reads : loads action ≡ None
  pub swaps : (byte : ℕ → ℕ) → swap_by byte action ≡ None
  pub exchanges : (byte : ℕ → ℕ) → exchange_by byte action ≡ None
  pub stores : (view : HartView) (byte : ℕ → ℕ) → store_in (perform action view byte) ≡ None
  pub appends : (cache : Cached) → piece_in cache action ≡ []
  pub placed : (span : Span) (room : ℕ) → IsInPlace span room action

pub view_alone : (action : Action) → quiet action ≡ true → ChangesViewAlone action
view_alone (actions.Put rd value) is = record {
  touches = refl;
  goes = refl;
  reserves = refl;
  reads = refl;
  swaps = λ byte. refl;
  exchanges = λ byte. refl;
  stores = λ view byte. refl;
  appends = λ cache. refl;
  placed = λ span room. tt;
}
view_alone (actions.JumpAndLink rd target) is = record {
  touches = refl;
  goes = refl;
  reserves = refl;
  reads = refl;
  swaps = λ byte. refl;
  exchanges = λ byte. refl;
  stores = λ view byte. refl;
  appends = λ cache. refl;
  placed = λ span room. tt;
}
view_alone (actions.Go target) is = record {
  touches = refl;
  goes = refl;
  reserves = refl;
  reads = refl;
  swaps = λ byte. refl;
  exchanges = λ byte. refl;
  stores = λ view byte. refl;
  appends = λ cache. refl;
  placed = λ span room. tt;
}
view_alone _ is = absurd (cc)

-- the parts after it
abbrev pub ran_quietly : Parts → ℕ → Action → Parts
ran_quietly parts h action =
    record parts {
      harts =
          slice_set parts.harts h
          (with_view (own_at parts.harts h) (view_after (execution_in parts h action) (present_at parts.harts h)));
    }

module _ (parts : Parts) (h : ℕ) (state : ModelState) (action : Action) (acts : ActsOutside parts h state)
    (is : action ≡ next_action parts h) (alone : ChangesViewAlone action) where
  coming : IsNext action state.committed h
  coming = next parts h state action acts is

  abbrev byte : ℕ → ℕ
  byte = byte_in state.committed.base state.committed.bytes

  no_swap : next_swap state.committed h ≡ None
  no_swap = sym (swap_next action state.committed h coming) ∙ alone.swaps byte

  no_reserve : next_reserved state.committed h ≡ None
  no_reserve = sym (reserve_next action state.committed h coming) ∙ alone.reserves

  no_touch : touch_of (footprint action) ≡ None
  no_touch = ap touch_of alone.touches

  -- it runs, whatever may be elided
  pub quiet_rule : plain_rule state h ≡ Runs (touch_of (footprint action))
  quiet_rule =
      let trusted = may_elide state.config.mode (hart_of state h) (view_of state.committed h).pc in
      ap (swap_rule state h) (none_either trusted (next_swap state.committed h) no_swap)
      ∙ ap (reserve_rule state h) (none_either trusted (next_reserved state.committed h) no_reserve)
      ∙ ap (touch_rule state h) (sym (touch_next action state.committed h coming) ∙ no_touch)
      ∙ ap Runs (sym no_touch)

  no_candidate : candidate_of state h ≡ None
  no_candidate =
      ap (if_candidate state.config.mode) (sym (exchange_next action state.committed h coming) ∙ alone.exchanges byte)

  no_load_reserved : is_load_reserved (next_insn state.committed h) ≡ false
  no_load_reserved =
      let goes = sym (next_call_or_stop action state.committed h coming) ∙ alone.goes in
      sym (reserves_going action state.committed h coming goes) ∙ ap is_some alone.reserves

  -- its hart learns nothing of it
  learns_nothing : (own : OwnState) → own.predictor.watch ≡ None → ran_own state h own ≡ own
  learns_nothing own none =
      ap (λ swap. candidate_own (own_acquire_pc state h own) (is_some own.predictor.watch) swap (record own {
        last_lr = last_reserve state h own.last_lr;
        predictor = watched state h own.predictor own.predictor.watch;
      })) no_candidate
      ∙ ap (λ reserves. record own {
        last_lr = if reserves then Some (view_of state.committed h).pc else own.last_lr;
        predictor = watched state h own.predictor own.predictor.watch;
      }) no_load_reserved
      ∙ ap (λ watch. record own { predictor = watched state h own.predictor watch }) none

  learnt_stays : (own_at parts.harts h).predictor.watch ≡ None → learnt parts h state ≡ parts
  learnt_stays none =
      ap (λ own. record parts { harts = slice_set parts.harts h own }) (learns_nothing (own_at parts.harts h) none)
      ∙ ap (λ harts. record parts { harts = harts }) (set-get_or parts.harts h (new_own no_hart 0 0))

  -- it runs over the hart's cache, which stays as it is
  over_cache : HasRunOver parts h action parts.pool (sets_in parts h)
  over_cache =
      let cache = cache_in parts h in
      let none = sym (alone.stores (present_at parts.harts h) (cached_byte cache)) in
      record {
        has_run = record {
          ways = refl;
          residency = sym (ap (after_touch cache.residency) no_touch);
          copies = subst (CopiesAfter cache cache) none (λ line. refl);
        };
        kept = lends parts h state acts;
        others = record {
          outs = λ slot other. refl;
          counts = λ other apart. refl;
          bytes = λ slot other has. refl;
          quotas = refl;
        };
        owner = refl;
      }

  pub quiet_ran : (new : Parts) → (own_at parts.harts h).predictor.watch ≡ None →
      new ≡ ran_quietly parts h action → RanIn (learnt parts h state) new h action
  quiet_ran new none new_is =
      subst (λ p. RanIn p new h action) (sym (learnt_stays none))
      (record {
        pool = parts.pool;
        cache = sets_in parts h;
        over = over_cache;
        new_is =
            new_is
            ∙ ap (λ caches. record (ran_quietly parts h action) {
              bus = record parts.bus { copies = record parts.bus.copies { caches = caches } };
            })
            (sym (set-get_or parts.bus.copies.caches h no_slotted));
      })

-- and leaves nothing to be done
no_effect : (action : Action) (parts : Parts) (cache : Cached) → ChangesViewAlone action →
    parts ≡ with_effect parts cache action
no_effect action parts cache alone =
    sym
    (ap (λ line. record parts {
      harts = unreserved_on line parts.harts;
      output = parts.output ++ piece_in cache action;
    }) (ap written_line alone.touches)
    ∙ ap (λ piece. record parts { output = parts.output ++ piece }) (alone.appends cache)
    ∙ ap (λ output. record parts { output = output }) (append-nil parts.output))

module _ (old new : Parts) (hart : HartId) (action : Action) (is : action ≡ next_action old hart.number)
    (quiets : quiet action ≡ true) (unwatched : is_none (own_at old.harts hart.number).predictor.watch ≡ true)
    (new_is : new ≡ ran_quietly old hart.number action) where
  alone : ChangesViewAlone action
  alone = view_alone action quiets

  placed : IsInPlace old.span (room_in old) action
  placed = alone.placed old.span (room_in old)

  nothing_left : new ≡ with_effect new (cache_in new hart.number) action
  nothing_left = no_effect action new (cache_in new hart.number) alone

  module _ (from : ModelState) (acts : ActsOutside old hart.number from) where
    rule : plain_rule from hart.number ≡ Runs (touch_of (footprint action))
    rule = quiet_rule old hart.number from action acts is alone

    lacks : lacking (permitted (cache_in old hart.number)) (footprint action) ≡ None
    lacks = lacks_nothing old hart.number from action acts is _ rule

    ran : RanIn (learnt old hart.number from) new hart.number action
    ran =
        let none = none_watches (own_at old.harts hart.number).predictor.watch unwatched in
        quiet_ran old hart.number from action acts is alone new none new_is

    ready : HasNoRequest old.bus hart.number → IsReady new.bus
    ready none_asked =
        ready_ran old new new hart.number from action acts ran is placed lacks none_asked nothing_left

    state : IsInState new (plain_turn from hart.number).state
    state =
        subst (λ turn. IsInState new turn.state) (sym (turn_is from hart.number _ rule))
        (after_ran old new new hart from action acts ran is placed lacks rule nothing_left)

  -- so it takes the turn of a step
  pub quiet_turn : OutsideSomewhere old hart.number → HasNoRequest old.bus hart.number →
      TakesTurn (λ from. ActsOutside old hart.number from) (λ from. plain_turn from hart.number) old new Ran
  quiet_turn some none_asked = record {
    ready = ready some.from some.acts none_asked;
    state = λ from acts. state from acts;
    outcome = λ from acts.
        ran_outcome from hart.number _ ∙ ap (λ turn. turn.outcome) (sym (turn_is from hart.number _ (rule from acts)));
    memory_stays = ap (λ p. p.bus.copies.lines) new_is;
  }
