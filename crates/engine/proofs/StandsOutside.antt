-- what holds where a hart acts outside of a section
use Rattle.std.proofs.Common.{◌≡◌, ◌∙◌, ℕ, ◌-◌, ◌<◌, ◌≤◌, Bool, true, false, length, Option, Some, None, is_some, refl}
use Rattle.std.proofs.Common.{ap, sym, subst, arith}
use Rattle.std.specs.Prelude.{◌&&◌, ◌==◌}
use Rattle.residency.specs.Cache.{has_marks}
use Rattle.residency.proofs.Laws.Rooms.{room_without_marks}
use Rattle.cache_sets.specs.Slotted.{IsLent}
use Rattle.cached_step.proofs.Laws.Told.{touched_there}
use Rattle.cached_step.specs.Memory.{TellsMemory}
use Rattle.coherence.proofs.Laws.Offered.{lent_at}
use Rattle.coherence.specs.Caches.{cache_at}
use Rattle.el_base.proofs.Laws.Ranges.{at_least, ranges}
use Rattle.el_base.specs.declared.config.Mode.{Mode}
use Rattle.el_model.specs.Plain.{armed_count, may_elide}
use Rattle.el_model.specs.State.{Armed, ModelState, armed_of, cache_of, hart_of, section_of}
use Rattle.el_model.specs.Upcoming.{Touch, touch_of}
use Rattle.engine.proofs.Framed.{tells_memory}
use Rattle.engine.proofs.KeptLive.{same_action}
use Rattle.engine.proofs.LentThere.{inside_caches}
use Rattle.engine.proofs.Misses.{freed_here, is_there, own_part}
use Rattle.engine.proofs.PlainRules.{TouchesLine}
use Rattle.engine.proofs.Reaching.{config_of}
use Rattle.engine.proofs.Reserved.{none_reserved}
use Rattle.engine.specs.Acting.{ActsOutside, cache_in, freed, next_action, sets_in}
use Rattle.engine.specs.Parts.{IsOfHart, Parts, StandsAs, committed_at, own_at, present_at, room_in}
use Rattle.hart_state.specs.Own.{HasOwn, committed_pc}
use Rattle.reg_mark.specs.Marks.{checkpoint_or}
use Rattle.rv_alu.specs.Footprint.{IsInPlace, footprint}
use Rattle.rv_alu.specs.declared.action.Action.{Action}
use Rattle.rv_alu.specs.declared.view.HartStatus.TheVariants.{Running}
use Rattle.rv_flat.specs.FlatState.{output_limit, room_of, span_of, status_of, view_of}
use Rattle.rv_flat.specs.Step.{action_of}
use Rattle.section_ctl.specs.State.{IsIdle}
use Rattle.snoop.specs.Shows.{LiesIn, has_room_in, lent_copies}
use Rattle.step_rules.specs.Rules.{IsOnLine}

-- a cache has no bits where its hart has neither section
none_lives : (marks : Bool) (armed : Option Armed) → armed ≡ None →
    (marks && (armed_count armed == 0)) ≡ false → marks ≡ false
none_lives marks None none is = by marks is
  where
    by : (marks : Bool) → (marks && true) ≡ false → marks ≡ false
    by true is = absurd (cc)
    by false is = refl
none_lives marks (Some armed) none is = absurd (cc)

-- what holds of the line of each touch holds of a touched line
of_touch : (P : ℕ → Type 0) (touch : Option Touch) (line : ℕ) → ((t : Touch) → touch ≡ Some t → P t.line) →
    TouchesLine touch line → P line
of_touch P None line there touches = absurd touches
of_touch P (Some touch) line there touches = subst P touches (there touch refl)

module _ (parts : Parts) (h : ℕ) (state : ModelState) (acts : ActsOutside parts h state) where
  pub inside : h < length state.harts
  inside = is_there parts state h acts.may

  pub is_own : IsOfHart parts.pool (freed state h) h (own_at parts.harts h)
  is_own = acts.may.is_in.harts h acts.may.exists

  -- what it keeps is that of the hart in the first state too
  pub has_own : HasOwn (own_at parts.harts h) (hart_of state h)
  has_own = own_part parts state h acts.may

  -- it has neither section there
  pub none_live : section_of (freed state h) h ≡ None
  none_live = ap (λ hart. hart.section) (freed_here state h inside) ∙ acts.no_section

  pub no_live : (own_at parts.harts h).section.live ≡ None
  no_live = is_own.part.section ∙ none_live

  pub none_armed : armed_of (freed state h) h ≡ None
  none_armed = ap (λ hart. hart.armed) (freed_here state h inside) ∙ acts.no_armed

  pub no_armed : (own_at parts.harts h).section.armed ≡ None
  no_armed = none_reserved (own_at parts.harts h).section.armed (is_own.part.armed ∙ none_armed)

  pub idle : IsIdle (own_at parts.harts h).section.marks (own_at parts.harts h).section.hold
  idle =
      let kept = (own_at parts.harts h).section in
      subst (λ armed. StandsAs kept.marks kept.hold None armed) no_armed
      (subst (λ live. StandsAs kept.marks kept.hold live kept.armed) no_live is_own.stands)

  -- so it sees its committed view
  pub sees_committed : committed_at parts.harts h ≡ present_at parts.harts h
  sees_committed = ap (λ mark. checkpoint_or mark (present_at parts.harts h)) idle.unmarked

  pub view_is : present_at parts.harts h ≡ view_of state.committed h
  view_is = sym sees_committed ∙ is_own.view

  pub runs : (present_at parts.harts h).status ≡ Running
  runs = ap (λ view. view.status) (sym sees_committed) ∙ acts.may.running

  pub runs_there : status_of state.committed h ≡ Running
  runs_there = ap (λ view. view.status) (sym view_is) ∙ runs

  pub action_is : next_action parts h ≡ action_of state.committed (view_of state.committed h)
  action_is = same_action parts h state acts.may ∙ ap (action_of state.committed) view_is

  pub on_line : IsOnLine state.committed
  on_line = omega (arith, acts.may.is_in.shows.memory.first)

  pub has_cache : h < length parts.bus.copies.caches
  has_cache = inside_caches parts h state acts.may

  -- its cache has no bits, and so room for any line
  pub none_marked : has_marks (cache_in parts h).residency ≡ false
  none_marked =
      ap has_marks (acts.may.is_in.shows.caches h)
      ∙ none_lives (has_marks (cache_of (freed state h) h)) (armed_of (freed state h) h) none_armed
      (sym (acts.may.is_in.shows.live h) ∙ ap is_some none_live)

  pub some_ways : 1 ≤ (cache_in parts h).ways
  some_ways =
      subst (λ n. 1 ≤ n)
      (sym (acts.may.is_in.shows.ways h (omega (arith, acts.may.exists, acts.may.is_in.one_each))
      ∙ ap (λ config. config.ways) (config_of state acts.may.reached)))
      (at_least 1 8 acts.may.reached.config.ways (ranges acts.may.reached.config acts.may.reached.in_range).ways)

  pub has_room_for : (line : ℕ) → has_room_in parts.bus.copies h line ≡ true
  has_room_for line = room_without_marks (cache_in parts h).ways (cache_in parts h).residency line some_ways none_marked

  pub tells_there : TellsMemory (lent_copies parts.pool parts.bus.copies) state.committed
  tells_there = tells_memory parts (freed state h) acts.may.is_in

  -- the cache with its bytes is the one that caches and main memory tell with
  pub lent_here : cache_at (lent_copies parts.pool parts.bus.copies).caches h ≡ cache_in parts h
  lent_here = lent_at parts.pool parts.bus.copies.caches h

  pub lends : IsLent parts.pool (sets_in parts h)
  lends = acts.may.is_in.told.lent.each h has_cache

  pub in_memory : (action : Action) → IsInPlace parts.span (room_in parts) action →
      IsInPlace (span_of state.committed) (room_of state.committed) action
  in_memory action place =
      subst (λ span. IsInPlace span (room_of state.committed) action) acts.may.is_in.span
      (subst (λ room. IsInPlace parts.span room action)
      (ap (λ output. output_limit - length output) acts.may.is_in.output) place)

  -- what an action touches is there
  pub line_there : (action : Action) (line : ℕ) → IsInPlace parts.span (room_in parts) action →
      TouchesLine (touch_of (footprint action)) line → LiesIn parts.bus.copies line
  line_there action line place touches =
      of_touch (LiesIn parts.bus.copies) (touch_of (footprint action)) line
      (λ touch found.
      touched_there (lent_copies parts.pool parts.bus.copies) state.committed (room_of state.committed) action touch
      tells_there.placed
      (in_memory action place) found)
      touches

  -- whether it may elide a swap
  pub elides_is : (mode : Mode) (may : _) → mode ≡ state.config.mode →
      may ≡ may_elide mode (hart_of (freed state h) h) (committed_pc (own_at parts.harts h)) →
      may ≡ may_elide state.config.mode (hart_of (freed state h) h) (view_of state.committed h).pc
  elides_is mode may mode_is is =
      is ∙ ap (λ m. may_elide m (hart_of (freed state h) h) (committed_pc (own_at parts.harts h))) mode_is
      ∙ ap (λ view. may_elide state.config.mode (hart_of (freed state h) h) view.pc) is_own.view
