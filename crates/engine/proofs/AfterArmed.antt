-- a hart has armed: the parts are in the definition's state
use Rattle.std.proofs.Common.{◌≡◌, ◌≢◌, ◌∙◌, ℕ, ◌<◌, ◌%◌, true, length, None, Some, is_some}
use Rattle.std.proofs.Common.{refl, ap, sym, subst, arith}
use Rattle.std.specs.Prelude.{slice_set}
use Rattle.std.proofs.lemmas.List.{get_or-set_same, length-set}
use Rattle.residency.specs.Cache.{is_resident}
use Rattle.cache_sets.specs.Slotted.{Slotted}
use Rattle.coherence.specs.Lent.{slotted_at}
use Rattle.el_base.specs.Line.{line_number}
use Rattle.el_base.specs.declared.config.Mode.TheVariants.{Plain}
use Rattle.el_base.specs.declared.hart_id.HartId.{HartId}
use Rattle.el_base.specs.declared.outcomes.Outcome.TheVariants as outcomes
use Rattle.el_model.proofs.Laws.Harts.{hart_of-with_hart_same}
use Rattle.el_model.specs.Plain.{Arms, arming_hart, by_plain_rule, plain_rule}
use Rattle.el_model.specs.State.{Hart, ModelState, hart_of, with_hart}
use Rattle.engine.proofs.Framed.{beside_same, told_copies, told_same}
use Rattle.engine.proofs.Misses.{own_cache}
use Rattle.engine.proofs.Others.{others_kept}
use Rattle.engine.proofs.Outsiders.{step_is}
use Rattle.engine.proofs.StandsOutside.{action_is, has_own, idle, inside, is_own, runs, runs_there, view_is}
use Rattle.engine.proofs.Stepped.{HasStepped, IsBetween, IsCacheOf, after_turn, freed_between, marked_cache}
use Rattle.engine.proofs.Stepped.{marked_formed, noted_between}
use Rattle.engine.proofs.Stepped.{ready_between, shows_between, stays_in_place}
use Rattle.engine.specs.Acting.{ActsOutside, next_action, sets_in}
use Rattle.engine.specs.Beginning.{IsReadMarked}
use Rattle.engine.specs.Parts.{IsInState, IsOfHart, KeepsSectionOf, Parts, own_at}
use Rattle.hart_state.specs.Deeds.{armed_own}
use Rattle.hart_state.specs.Own.{HasOwn, OwnState, new_own}
use Rattle.rv_alu.specs.Loaded.{loaded}
use Rattle.rv_alu.specs.declared.action.Action.TheVariants as actions
use Rattle.rv_flat.specs.FlatState.{no_hart}
use Rattle.rv_flat.specs.Memory.{byte_in}
use Rattle.rv_word.specs.declared.reg.Reg.{Reg}
use Rattle.section_view.proofs.Laws.Arming.{arms}
use Rattle.section_view.specs.ArmedLaws.{reserved_view}
use Rattle.section_view.specs.KeptRun.{KeepsArmed}
use Rattle.snoop.proofs.Laws.Living.{lives_armed}
use Rattle.snoop.specs.Leaving.{LeavesNoted}
use Rattle.snoop.specs.Returned.{returned}
use Rattle.snoop.specs.Shows.{IsReady, BusState}

pub arms_outcome : (from : ModelState) (h word : ℕ) → outcomes.Armed ≡ (by_plain_rule from h (Arms word)).outcome
unfolding by_plain_rule
arms_outcome from h word = refl

-- the hart then, and as its count is noted
abbrev now_of : ModelState → ℕ → ℕ → Hart
now_of from h word = arming_hart word (hart_of from h)

abbrev noted_of : ModelState → ℕ → ℕ → Hart
noted_of from h word = record (hart_of from h) { held_line = None; armed = Some (record { count = 1; word = word }) }

module _ (old : Parts) (bus : BusState) (hart : HartId) (from : ModelState)
    (acts : ActsOutside old hart.number from) (word : ℕ)
    (noted : LeavesNoted hart.number 1 old.bus bus) where
  abbrev h : ℕ
  h = hart.number

  pub noted_armed : IsBetween bus from (with_hart from h (noted_of from h word)) h (noted_of from h word)
  noted_armed =
      noted_between old.bus bus from _ h 1 _ (noted_of from h word) (freed_between old h from acts.may)
      noted refl refl refl
      (ap is_some acts.no_section ∙ sym (lives_armed (hart_of from h).cache 1 (omega arith)))

  pub inside_bus : h < length bus.copies.caches
  inside_bus = subst (λ n. h < n) (sym noted_armed.shows.cache_each) noted_armed.there

  -- the line is there, as it was
  pub still_there : is_resident (sets_in old h).residency (line_number word) ≡ true →
      is_resident (slotted_at bus.copies.caches h).residency (line_number word) ≡ true
  still_there there =
      subst (λ cache. is_resident cache (line_number word) ≡ true)
      (own_cache old from h acts.may ∙ sym (noted_armed.shows.caches h ∙ ap (λ k. k.cache) noted_armed.here))
      there

  module _ (cache : Slotted) (marks : IsReadMarked (slotted_at bus.copies.caches h) cache (line_number word)) where
    is_cache : IsCacheOf bus h cache (now_of from h word)
    is_cache =
        marked_cache bus h (line_number word) cache from _ (noted_of from h word) (now_of from h word)
        noted_armed marks refl
        (ap is_some acts.no_section) (omega arith)

    pub armed_ready : from.config.mode ≢ Plain → IsReady (returned bus h cache)
    armed_ready elides =
        ready_between bus from _ h cache (noted_of from h word) inside_bus noted.ready noted_armed refl
        refl acts.may.free
        (marked_formed bus h (line_number word) cache inside_bus noted.ready marks)
        (λ plain. absurd (elides (sym noted_armed.shows.mode ∙ plain)))

    abbrev state : ModelState
    state = with_hart from h (now_of from h word)

    module _ (found : ℕ) (rd : Reg) (is : actions.LoadReserved rd word ≡ next_action old h)
        (rule : plain_rule from h ≡ Arms word)
        (tells : found ≡ loaded (byte_in from.committed.base from.committed.bytes) word 4)
        (aligned : word % 4 ≡ 0) where
      abbrev own : OwnState
      own = armed_own word found rd.number (own_at old.harts h)

      own_now : IsOfHart old.pool state h own
      own_now =
          let here = hart_of-with_hart_same from h (now_of from h word) (inside old h from acts) in
          let has = has_own old h from acts in
          let part : HasOwn own (now_of from h word) = record {
            section = sym acts.no_section;
            armed = refl;
            last_lr = has.last_lr;
            predictor = has.predictor;
            fallback = has.fallback;
            tries = has.tries;
          } in
          record {
            part = subst (HasOwn own) (sym here) part;
            view = view_is old h from acts;
            section =
                subst (λ live. KeepsSectionOf old.pool state h live own.section)
                (sym (ap (λ k. k.section) here ∙ acts.no_section)) tt;
            armed =
                subst (λ view. KeepsArmed from.committed h (record { count = 1; word = word }) found
                (reserved_view view rd.number word found))
                (sym (view_is old h from acts))
                (arms from.committed h word found rd (runs_there old h from acts)
                (sym (is ∙ action_is old h from acts)) tells);
            stands = record {
              mark = refl;
              running = runs old h from acts;
              aligned = aligned;
              empty = (idle old h from acts).empty;
              counted = omega arith;
            };
            limit = (is_own old h from acts).limit;
            owner = (is_own old h from acts).owner;
            lent = (is_own old h from acts).lent;
          }

      stepped : HasStepped old (record old { bus = returned bus h cache; harts = slice_set old.harts h own }) h state
      stepped =
          let none = new_own no_hart 0 0 in
          record {
            config = refl;
            span = refl;
            code = refl;
            output = refl;
            shows =
                shows_between bus from _ h cache (noted_of from h word) (now_of from h word) inside_bus noted_armed
                refl refl is_cache;
            told =
                told_same old.pool bus h cache _
                (told_copies old.pool old.bus bus _ noted.copies_stay acts.may.is_in.told) inside_bus marks.keeps;
            beside = beside_same h old.pool;
            each = length-set old.harts h own;
            own =
                subst (IsOfHart old.pool state h) (sym (get_or-set_same old.harts h own none acts.may.exists)) own_now;
            others = others_kept old h from own from.committed acts.may (λ g other. refl);
          }

      pub armed_in : IsInState (record old { bus = returned bus h cache; harts = slice_set old.harts h own })
          (by_plain_rule from h (Arms word)).state
      unfolding by_plain_rule
      armed_in =
          after_turn old _ hart from (by_plain_rule from h (Arms word)) acts.may
          (step_is old hart from (Arms word) acts rule)
          (stays_in_place from.committed) stepped
