-- the parts after each call of an instruction that runs outside of a section
use Rattle.std.proofs.Common.{◌≡◌, ◌∙◌, ℕ, ◌++◌, None, refl, ap, sym, subst}
use Rattle.std.specs.Prelude.{slice_set}
use Rattle.std.proofs.lemmas.List.{get_or-set_same, set-set}
use Rattle.cache_sets.specs.Cached.{Cached, cached_byte}
use Rattle.cache_sets.specs.Slotted.{IsLent, lent}
use Rattle.cached_step.specs.CacheRun.{HasRun, permitted}
use Rattle.coherence.specs.Lent.{no_slotted}
use Rattle.core_step.specs.Run.{lacking}
use Rattle.el_base.specs.declared.hart_id.HartId.{HartId}
use Rattle.el_model.specs.Plain.{Runs, by_plain_rule, plain_rule}
use Rattle.el_model.specs.State.{ModelState}
use Rattle.el_model.specs.Upcoming.{touch_of}
use Rattle.engine.proofs.AfterRan.{no_checkpoint, own_ran, parts_ran, ran_in}
use Rattle.engine.proofs.LeftBehind.{harts_after}
use Rattle.engine.proofs.RanAction.{can_append, ran_kept, ran_ready}
use Rattle.engine.proofs.StandsOutside.{has_cache}
use Rattle.engine.specs.Acting.{ActsOutside, cache_in, next_action, sets_in}
use Rattle.engine.specs.Effect.{CanAppend, piece_in, unreserved_on}
use Rattle.engine.specs.Outside.{HasRunOver, RanIn, execution_in}
use Rattle.engine.specs.Parts.{IsInState, Parts, own_at, present_at, room_in}
use Rattle.engine.specs.Private.{with_own}
use Rattle.hart_state.specs.Deeds.{ran_own}
use Rattle.hart_state.specs.Lending.{with_view}
use Rattle.hart_state.specs.Own.{OwnState, new_own}
use Rattle.rv_alu.specs.Execution.{perform, store_in, view_after}
use Rattle.rv_alu.specs.Footprint.{IsInPlace, footprint}
use Rattle.rv_alu.specs.declared.action.Action.{Action}
use Rattle.rv_alu.specs.declared.view.HartView.{HartView}
use Rattle.rv_flat.specs.FlatState.{no_hart}
use Rattle.rv_flat.specs.Laws.{written_line}
use Rattle.snoop.specs.Asking.{HasNoRequest}
use Rattle.snoop.specs.Returned.{returned}
use Rattle.snoop.specs.Shows.{IsReady}

-- the hart has learnt of its next instruction
abbrev pub learnt : Parts → ℕ → ModelState → Parts
learnt parts h state = record parts { harts = slice_set parts.harts h (ran_own state h (own_at parts.harts h)) }

-- what an action leaves was done
abbrev pub with_effect : Parts → Cached → Action → Parts
with_effect parts cache action = record parts {
  harts = unreserved_on (written_line (footprint action)) parts.harts;
  output = parts.output ++ piece_in cache action;
}

-- that is no part of its section
pub learnt_section : (parts : Parts) (h : ℕ) (state : ModelState) → ActsOutside parts h state →
    (own_at (learnt parts h state).harts h).section ≡ (own_at parts.harts h).section
learnt_section parts h state acts =
    ap (λ own. own.section)
    (get_or-set_same parts.harts h (ran_own state h (own_at parts.harts h)) (new_own no_hart 0 0) acts.may.exists)
    ∙ ran_kept state h (own_at parts.harts h)

module _ (old mid : Parts) (h : ℕ) (state : ModelState) (action : Action) (acts : ActsOutside old h state)
    (ran : RanIn (learnt old h state) mid h action) where
  learnt_own : own_at (learnt old h state).harts h ≡ ran_own state h (own_at old.harts h)
  learnt_own = get_or-set_same old.harts h (ran_own state h (own_at old.harts h)) (new_own no_hart 0 0) acts.may.exists

  learnt_present : (ran_own state h (own_at old.harts h)).section.marks.present ≡ present_at old.harts h
  learnt_present = ap (λ section. section.marks.present) (ran_kept state h (own_at old.harts h))

  present_stays : present_at (learnt old h state).harts h ≡ present_at old.harts h
  present_stays = ap (λ own. own.section.marks.present) learnt_own ∙ learnt_present

  pub over_old : HasRunOver old h action ran.pool ran.cache
  over_old = record {
    has_run =
        subst (λ view. HasRun (cache_in old h) (lent ran.pool ran.cache) action
        (store_in (perform action view (cached_byte (cache_in old h)))))
        present_stays ran.over.has_run;
    kept = ran.over.kept;
    others = ran.over.others;
    owner = ran.over.owner;
  }

  mid_is : mid ≡ with_own old h ran.pool ran.cache (own_ran old h state action)
  mid_is =
      ran.new_is
      ∙ ap {A = HartView} (λ view. record old {
        pool = ran.pool;
        bus = returned old.bus h ran.cache;
        harts =
            slice_set (learnt old h state).harts h
            (with_view (own_at (learnt old h state).harts h)
            (view_after (perform action view (cached_byte (cache_in old h))) view));
      }) present_stays
      ∙ ap {A = OwnState} (λ own. record old {
        pool = ran.pool;
        bus = returned old.bus h ran.cache;
        harts =
            slice_set (learnt old h state).harts h
            (with_view own (view_after (execution_in old h action) (present_at old.harts h)));
      }) learnt_own
      ∙ ap (λ harts. record old { pool = ran.pool; bus = returned old.bus h ran.cache; harts = harts })
      (set-set old.harts h (ran_own state h (own_at old.harts h)) (own_ran old h state action))

  cache_is : cache_in mid h ≡ lent ran.pool ran.cache
  cache_is =
      ap (λ p. cache_in p h) ran.new_is
      ∙ ap (lent ran.pool) (get_or-set_same old.bus.copies.caches h ran.cache no_slotted (has_cache old h state acts))

  pub lent_mid : IsLent mid.pool (sets_in mid h)
  lent_mid =
      subst (λ p. IsLent p.pool (sets_in p h)) (sym ran.new_is)
      (subst (IsLent ran.pool)
      (sym (get_or-set_same old.bus.copies.caches h ran.cache no_slotted (has_cache old h state acts)))
      ran.over.kept)

  pub may_append : IsInPlace old.span (room_in old) action →
      lacking (permitted (cache_in old h)) (footprint action) ≡ None → CanAppend (cache_in mid h) (room_in mid) action
  may_append place none =
      subst (λ cache. CanAppend cache (room_in mid) action) (sym cache_is)
      (subst (λ p. CanAppend (lent ran.pool ran.cache) (room_in p) action) (sym ran.new_is)
      (can_append old h (room_in old) old.span action (lent ran.pool ran.cache) place none over_old.has_run))

  pub same_new : (new : Parts) → new ≡ with_effect mid (cache_in mid h) action →
      new ≡ parts_ran old h state action ran.pool ran.cache
  same_new new is =
      is ∙ ap (λ cache. with_effect mid cache action) cache_is
      ∙ ap (λ p. with_effect p (lent ran.pool ran.cache) action) mid_is
      ∙ ap (λ harts. record old {
        pool = ran.pool;
        bus = returned old.bus h ran.cache;
        harts = harts;
        output = old.output ++ piece_in (lent ran.pool ran.cache) action;
      })
      (harts_after action (present_at old.harts h) (cached_byte (cache_in old h)) old.harts h
      (own_ran old h state action)
      (no_checkpoint old h state action acts) refl)

pub after_ran : (old mid new : Parts) (hart : HartId) (state : ModelState) (action : Action)
    (acts : ActsOutside old hart.number state)
    (ran : RanIn (learnt old hart.number state) mid hart.number action) → action ≡ next_action old hart.number →
    IsInPlace old.span (room_in old) action → lacking (permitted (cache_in old hart.number)) (footprint action) ≡ None →
    plain_rule state hart.number ≡ Runs (touch_of (footprint action)) →
    new ≡ with_effect mid (cache_in mid hart.number) action →
    IsInState new (by_plain_rule state hart.number (Runs (touch_of (footprint action)))).state
unfolding by_plain_rule
after_ran old mid new hart state action acts ran is place none rule new_is =
    let h = hart.number in
    let shown =
    ran_in old hart state action acts is place none rule ran.pool ran.cache
    (over_old old mid h state action acts ran) in
    subst (λ p. IsInState p (by_plain_rule state hart.number (Runs (touch_of (footprint action)))).state)
    (sym (same_new old mid h state action acts ran new new_is)) shown

pub ready_ran : (old mid new : Parts) (h : ℕ) (state : ModelState) (action : Action) (acts : ActsOutside old h state)
    (ran : RanIn (learnt old h state) mid h action) → action ≡ next_action old h →
    IsInPlace old.span (room_in old) action → lacking (permitted (cache_in old h)) (footprint action) ≡ None →
    HasNoRequest old.bus h → new ≡ with_effect mid (cache_in mid h) action → IsReady new.bus
ready_ran old mid new h state action acts ran is place none none_asked new_is =
    subst (λ p. IsReady p.bus) (sym (same_new old mid h state action acts ran new new_is))
    (ran_ready old h state action acts is place none ran.pool ran.cache
    (over_old old mid h state action acts ran) none_asked)
