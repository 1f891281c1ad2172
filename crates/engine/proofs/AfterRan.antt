-- an instruction has run outside of a section: the parts are in the definition's state
use Rattle.std.proofs.Common.{◌≡◌, ◌≢◌, ◌∙◌, ℕ, ◌+◌, ◌++◌, ◌<◌, List, length, map, Option, Some, None, inl, inr, refl}
use Rattle.std.proofs.Common.{ap, sym, subst, arith}
use Rattle.std.specs.Prelude.{slice_set}
use Rattle.std.proofs.lemmas.Bool.{cases_eq}
use Rattle.std.proofs.lemmas.List.{get_or-map, get_or-set_other, get_or-set_same, length-map, length-set}
use Rattle.cache_sets.specs.Cached.{cached_byte}
use Rattle.cache_sets.specs.Slotted.{Slotted, lent}
use Rattle.cached_step.specs.CacheRun.{permitted}
use Rattle.coherence.proofs.Laws.Offered.{leaves_owner}
use Rattle.coherence.specs.Lent.{LeavesOwner}
use Rattle.core_step.specs.Run.{lacking}
use Rattle.el_base.specs.Line.{line_number}
use Rattle.el_base.specs.declared.hart_id.HartId.{HartId}
use Rattle.el_model.proofs.Laws.Harts.{hart_of-with_hart_same}
use Rattle.el_model.specs.Plain.{Runs, by_plain_rule, plain_rule}
use Rattle.el_model.specs.State.{ModelState, hart_of}
use Rattle.el_model.specs.Upcoming.{touch_of}
use Rattle.engine.proofs.LeftBehind.{appended_after, line_stored, store_line}
use Rattle.engine.proofs.Framed.{hold_beside, hold_lent, own_left}
use Rattle.engine.proofs.Misses.{freed_each}
use Rattle.engine.proofs.LentThere.{few_harts}
use Rattle.engine.proofs.Others.{IsSeenAs, others_stay, seen_same, seen_unreserved}
use Rattle.engine.proofs.Outsiders.{step_is, step_of}
use Rattle.engine.proofs.RanAction.{hart_ran, leaves, ran_kept, ran_shows, ran_told, same_execution, section_none}
use Rattle.engine.proofs.RanAction.{state_ran, tells_piece}
use Rattle.engine.proofs.StandsOutside.{has_cache, has_own, idle, inside, is_own, no_armed, no_live, runs_there}
use Rattle.engine.proofs.StandsOutside.{view_is}
use Rattle.engine.specs.Acting.{ActsOutside, cache_in, next_action, sets_in}
use Rattle.engine.specs.Effect.{piece_in, unreserved_on}
use Rattle.engine.specs.Outside.{HasRunOver, execution_in}
use Rattle.engine.specs.Parts.{IsInState, IsOfHart, KeepsReserved, KeepsSectionOf, Parts, StandsAs, hold_owner, own_at}
use Rattle.engine.specs.Parts.{present_at, room_in}
use Rattle.hart_state.proofs.Laws.Harts.{ran_is, written_is}
use Rattle.hart_state.specs.Deeds.{ran_own, unreserved_own}
use Rattle.hart_state.specs.Lending.{with_view}
use Rattle.hart_state.specs.Own.{HasOwn, OwnState, new_own}
use Rattle.line_pool.specs.Pooled.{Pooled}
use Rattle.reg_mark.specs.Marks.{checkpoint_or, committed_of}
use Rattle.rv_alu.specs.Execution.{Execution, Store, append_in, store_in, view_after}
use Rattle.rv_alu.specs.Footprint.{IsInPlace, footprint}
use Rattle.rv_alu.specs.Reservations.{unreserved}
use Rattle.rv_alu.specs.declared.action.Action.{Action}
use Rattle.rv_flat.proofs.Laws.RunsAfter.{runs-exists}
use Rattle.rv_flat.proofs.Laws.Shapes.{span_kept}
use Rattle.rv_flat.proofs.Laws.StepLaws.{keeps_shape, own_view, running}
use Rattle.rv_flat.specs.FlatState.{FlatState, no_hart, view_of}
use Rattle.rv_flat.specs.Laws.{written_line}
use Rattle.rv_flat.specs.Step.{appended_by, applied, execution_of, flat, unreserved_by}
use Rattle.snoop.specs.Returned.{returned}
use Rattle.write_hold.specs.Slotted.{IsLent}

-- what the hart keeps then
abbrev pub own_ran : Parts → ℕ → ModelState → Action → OwnState
own_ran parts h state action =
    with_view (ran_own state h (own_at parts.harts h))
    (view_after (execution_in parts h action) (present_at parts.harts h))

-- the parts then, after what the action leaves was done
abbrev pub parts_ran : Parts → ℕ → ModelState → Action → Pooled → Slotted → Parts
parts_ran parts h state action pool cache = record parts {
  pool = pool;
  bus = returned parts.bus h cache;
  harts = slice_set (unreserved_on (written_line (footprint action)) parts.harts) h (own_ran parts h state action);
  output = parts.output ++ piece_in (lent pool cache) action;
}

pub no_checkpoint : (parts : Parts) (h : ℕ) (state : ModelState) (action : Action) → ActsOutside parts h state →
    (own_ran parts h state action).section.marks.mark ≡ None
no_checkpoint parts h state action acts =
    ap (λ section. section.marks.mark) (ran_kept state h (own_at parts.harts h)) ∙ (idle parts h state acts).unmarked

-- each hart but one, after a store of the one, if it made one
length-unreserved : (line : Option ℕ) (harts : List OwnState) → length (unreserved_on line harts) ≡ length harts
length-unreserved None harts = refl
length-unreserved (Some line) harts = length-map harts (unreserved_own line)

other_view : (state : FlatState) (h g : ℕ) (execution : Execution) (line : Option ℕ) →
    store_line (store_in execution) ≡ line → g ≢ h → g < length state.harts → (own : OwnState) →
    (harts : List OwnState) → g < length harts → own ≡ own_at harts g →
    committed_of own.section.marks ≡ view_of state g → IsSeenAs own (own_at (unreserved_on line harts) g)
    (view_of (applied state h (view_of state h) execution) g)
other_view state h g execution line is other there own harts inside own_is view =
    subst (λ v. IsSeenAs own (own_at (unreserved_on line harts) g) v)
    (sym (get_or-set_other (unreserved_by (store_in execution) state.harts) h g
    (view_after execution (view_of state h)) no_hart other))
    (subst (λ l. IsSeenAs own (own_at (unreserved_on l harts) g)
    (view_of (record state { harts = unreserved_by (store_in execution) state.harts }) g))
    is (by (store_in execution)))
  where
    by : (store : Option Store) →
        IsSeenAs own (own_at (unreserved_on (store_line store) harts) g)
        (view_of (record state { harts = unreserved_by store state.harts }) g)
    by None = subst (λ new. IsSeenAs own new (view_of state g)) own_is (seen_same own (view_of state g) view)
    by (Some store) =
        let line = line_number store.address in
        subst (λ new. IsSeenAs own new (view_of (record state { harts = map (unreserved line) state.harts }) g))
        (ap (unreserved_own line) own_is
        ∙ sym (get_or-map (unreserved_own line) harts g (new_own no_hart 0 0) (new_own no_hart 0 0) inside))
        (subst (IsSeenAs own (unreserved_own line own))
        (ap (unreserved line) view ∙ sym (get_or-map (unreserved line) state.harts g no_hart no_hart there))
        (seen_unreserved line own))

module _ (parts : Parts) (hart : HartId) (state : ModelState) (action : Action)
    (acts : ActsOutside parts hart.number state)
    (is : action ≡ next_action parts hart.number) (place : IsInPlace parts.span (room_in parts) action)
    (none : lacking (permitted (cache_in parts hart.number)) (footprint action) ≡ None)
    (rule : plain_rule state hart.number ≡ Runs (touch_of (footprint action))) (pool : Pooled) (cache : Slotted)
    (over : HasRunOver parts hart.number action pool cache) where
  same : execution_in parts hart.number action ≡ execution_of state.committed (view_of state.committed hart.number)
  same = same_execution parts hart.number state action acts is place none pool cache over

  done : flat state.committed hart.number
      ≡ applied state.committed hart.number (view_of state.committed hart.number)
      (execution_of state.committed (view_of state.committed hart.number))
  done = running state.committed hart.number (runs_there parts hart.number state acts)

  -- the hart itself
  hart_there : hart_of (state_ran state hart.number action) hart.number ≡ hart_ran state hart.number action
  hart_there =
      hart_of-with_hart_same state hart.number (hart_ran state hart.number action) (inside parts hart.number state acts)

  -- its hold is lent as before
  hold_yet : IsLent pool (own_at parts.harts hart.number).section.hold
  hold_yet =
      let is = is_own parts hart.number state acts in
      hold_lent parts.pool pool (own_at parts.harts hart.number).section.hold
      (subst (λ owner. LeavesOwner owner parts.pool pool) (sym is.owner) left_own) is.lent
    where
      left_own : LeavesOwner (hold_owner hart.number) parts.pool pool
      left_own =
          leaves_owner (sets_in parts hart.number).owner (hold_owner hart.number) parts.pool pool over.others
          (λ same.
          absurd
          (omega (
            arith,
            same,
            acts.may.is_in.told.lent.owned hart.number
                (has_cache parts hart.number state acts),
          )))

  own_stays : IsOfHart pool (state_ran state hart.number action) hart.number (own_ran parts hart.number state action)
  own_stays =
      let own = own_at parts.harts hart.number in
      let view = view_after (execution_in parts hart.number action) (present_at parts.harts hart.number) in
      let kept = ran_kept state hart.number own in
      let live : (own_ran parts hart.number state action).section.live ≡ None =
      ap (λ section. section.live) kept ∙ no_live parts hart.number state acts in
      let armed : (own_ran parts hart.number state action).section.armed ≡ None =
      ap (λ section. section.armed) kept ∙ no_armed parts hart.number state acts in
      let ran = (own_ran parts hart.number state action).section in
      record {
        part =
            subst (HasOwn (own_ran parts hart.number state action)) (sym hart_there)
            (written_is (ran_own state hart.number own) (hart_ran state hart.number action) view
            (ran_is state hart.number (touch_of (footprint action)) own (hart_of state hart.number)
            (has_own parts hart.number state acts) refl));
        view =
            ap (λ mark. checkpoint_or mark view) (no_checkpoint parts hart.number state action acts)
            ∙ ap (λ v. view_after (execution_in parts hart.number action) v) (view_is parts hart.number state acts)
            ∙ ap (λ e. view_after e (view_of state.committed hart.number)) same
            ∙ sym (own_view state.committed hart.number
            (runs-exists state.committed hart.number (runs_there parts hart.number state acts))
            (runs_there parts hart.number state acts));
        section =
            subst (λ section. KeepsSectionOf pool (state_ran state hart.number action) hart.number section
            (own_ran parts hart.number state action).section)
            (sym (ap (λ k. k.section) hart_there ∙ section_none parts hart.number state action acts is place none pool
            cache over)) tt;
        armed =
            subst (λ reserved. KeepsReserved (state_ran state hart.number action).committed hart.number reserved
            ran.marks.present) (sym armed) tt;
        stands =
            subst (λ l. StandsAs ran.marks ran.hold l ran.armed) (sym live)
            (subst (λ a. StandsAs ran.marks ran.hold None a) (sym armed)
            (record {
              unmarked = no_checkpoint parts hart.number state action acts;
              empty = ap (λ section. section.hold.entries) kept ∙ (idle parts hart.number state acts).empty;
            }));
        limit = ap (λ section. section.hold.limit) kept ∙ (is_own parts hart.number state acts).limit;
        owner = ap (λ section. section.hold.owner) kept ∙ (is_own parts hart.number state acts).owner;
        lent = subst (λ section. IsLent pool section.hold) (sym kept) hold_yet;
      }

  same_length : length (parts_ran parts hart.number state action pool cache).harts ≡ length parts.harts
  same_length =
      length-set (unreserved_on (written_line (footprint action)) parts.harts) hart.number
      (own_ran parts hart.number state action)
      ∙ length-unreserved (written_line (footprint action)) parts.harts

  -- each other one
  other_stays : (g : ℕ) → g ≢ hart.number → g < length parts.harts →
      IsOfHart pool (state_ran state hart.number action) g
      (own_at (parts_ran parts hart.number state action pool cache).harts g)
  unfolding by_plain_rule
  other_stays g other there =
      let turn = step_is parts hart state (Runs (touch_of (footprint action))) acts rule in
      own_left parts.pool pool (state_ran state hart.number action) g
      (own_at (parts_ran parts hart.number state action pool cache).harts g)
      (hold_beside hart.number g parts.pool pool
      (leaves parts hart.number state action acts is place none pool cache over)
      (few_harts parts hart.number state acts.may) other)
      (subst (λ t. IsOfHart parts.pool t.state g (own_at (parts_ran parts hart.number state action pool cache).harts g))
      turn
      (others_stay parts state (step_of hart) g (own_at (parts_ran parts hart.number state action pool cache).harts g)
      acts.may.reached acts.may.is_in refl
      other there
      (subst (λ t. IsSeenAs (own_at parts.harts g)
      (own_at (parts_ran parts hart.number state action pool cache).harts g) (view_of t.state.committed g))
      (sym turn)
      (subst (λ new. IsSeenAs (own_at parts.harts g) new (view_of (flat state.committed hart.number) g))
      (sym (get_or-set_other (unreserved_on (written_line (footprint action)) parts.harts) hart.number g
      (own_ran parts hart.number state action)
      (new_own no_hart 0 0) other))
      (subst (λ memory. IsSeenAs (own_at parts.harts g)
      (own_at (unreserved_on (written_line (footprint action)) parts.harts) g) (view_of memory g))
      (sym done)
      (other_view state.committed hart.number g (execution_of state.committed (view_of state.committed hart.number))
      (written_line (footprint action))
      (ap (λ e. store_line (store_in e)) (sym same)
      ∙ line_stored action (present_at parts.harts hart.number) (cached_byte (cache_in parts hart.number)))
      other (subst (λ n. g < n) acts.may.is_in.view_each there) (own_at parts.harts g) parts.harts there refl
      (acts.may.is_in.harts g there).view))))))

  pub ran_in : IsInState (parts_ran parts hart.number state action pool cache) (state_ran state hart.number action)
  ran_in =
      let was = acts.may.is_in in
      let keeps = keeps_shape state.committed hart.number in
      record {
        config = was.config;
        span = was.span ∙ sym (span_kept state.committed (flat state.committed hart.number) keeps);
        shows = ran_shows parts hart.number state action acts is place none pool cache over;
        told = ran_told parts hart.number state action acts is place none pool cache over;
        one_each =
            same_length ∙ freed_each parts state hart.number acts.may
            ∙ sym (length-set state.harts hart.number (hart_ran state hart.number action));
        view_each = same_length ∙ was.view_each ∙ sym keeps.harts;
        harts = λ g below. elim (cases_eq g hart.number) [
          | inl own ↦
              subst (λ k. IsOfHart pool (state_ran state hart.number action) k
              (own_at (parts_ran parts hart.number state action pool cache).harts k)) (sym own)
              (subst (IsOfHart pool (state_ran state hart.number action) hart.number)
              (sym (get_or-set_same (unreserved_on (written_line (footprint action)) parts.harts) hart.number
              (own_ran parts hart.number state action)
              (new_own no_hart 0 0)
              (omega (arith, acts.may.exists, length-unreserved (written_line (footprint action)) parts.harts))))
              own_stays)
          | inr other ↦ other_stays g other (subst (λ n. g < n) same_length below)
        ];
        code = was.code ∙ sym keeps.code;
        output =
            ap (λ output. output ++ piece_in (lent pool cache) action) was.output
            ∙ appended_after (lent pool cache) state.committed parts.bus.copies.first (room_in parts) parts.span action
            (present_at parts.harts hart.number)
            (cached_byte (cache_in parts hart.number)) was.shows.memory.first
            (was.shows.memory.first ∙ sym (ap (λ span. span.base) was.span)) place
            (tells_piece parts hart.number state action (lent pool cache) acts none over.has_run)
            ∙ ap (λ e. appended_by (append_in e) state.committed.base state.committed.bytes state.committed.output) same
            ∙ sym (ap (λ s. s.output) done);
      }
