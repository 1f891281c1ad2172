-- the acquire of an armed section has been elided: the parts are in the definition's state
use Rattle.std.proofs.Common.{◌≡◌, ◌∙◌, ℕ, suc, ◌+◌, ◌≤◌, ◌<◌, true, length, None, Some, is_some, refl, ap, sym, subst}
use Rattle.std.proofs.Common.{arith}
use Rattle.std.specs.Prelude.{slice_set}
use Rattle.std.proofs.lemmas.Option.{same_Some}
use Rattle.residency.specs.Cache.{has_marks, is_resident, marked, touched}
use Rattle.cache_sets.specs.Slotted.{Slotted}
use Rattle.el_base.specs.Line.{line_number}
use Rattle.el_base.specs.declared.hart_id.HartId.{HartId}
use Rattle.el_base.specs.declared.outcomes.Need.TheVariants.{Read}
use Rattle.el_model.proofs.Laws.Harts.{hart_of-with_hart_same}
use Rattle.el_model.specs.Armed.{Elides, armed_turn, by_armed_rule, shown_armed}
use Rattle.el_model.specs.Attempts.{open_attempt}
use Rattle.el_model.specs.Plain.{armed_count, began_hart}
use Rattle.el_model.specs.State.{Armed, Hart, ModelState, Section, cache_of, hart_of, with_hart}
use Rattle.el_model.specs.Upcoming.{Swap}
use Rattle.engine.proofs.AfterBegan.{began_stepped, entered, has_bit_now, nothing_marked, opened_state, state_began}
use Rattle.engine.proofs.ArmedRules.{elides_at}
use Rattle.engine.proofs.ArmedSteps.{held_nothing, stepped_armed}
use Rattle.engine.proofs.Buffered.{committed_beside}
use Rattle.engine.proofs.LentThere.{inside_caches}
use Rattle.engine.proofs.Framed.{holds_none, told_copies, told_same}
use Rattle.engine.proofs.KeptLive.{same_action}
use Rattle.engine.proofs.KeptPrivate.{keeps_private, next_private, word_line_there}
use Rattle.engine.proofs.Stepped.{IsBetween, IsCacheOf, free_between, freed_between, marked_cache, marked_formed}
use Rattle.engine.proofs.Stepped.{noted_between}
use Rattle.engine.proofs.Stepped.{read_not_plain, ready_between, returned_between, stays_in_place}
use Rattle.engine.proofs.Laws.Swaps.{IsConditionalOf, conditional_action}
use Rattle.engine.specs.Acting.{next_action, sets_in}
use Rattle.engine.specs.Armed.{FollowsArmed}
use Rattle.engine.specs.Beginning.{IsReadMarked}
use Rattle.engine.specs.Parts.{IsInState, IsOfHart, KeepsSectionOf, Parts, own_at, present_at}
use Rattle.hart_state.specs.Deeds.{elided_own}
use Rattle.hart_state.specs.Own.{HasOwn, OwnState}
use Rattle.pair_table.specs.Predictor.{unwatched}
use Rattle.rv_alu.specs.Execution.{put_of, release_of}
use Rattle.rv_alu.specs.declared.action.Action.{Action}
use Rattle.rv_alu.specs.declared.action.Action.TheVariants as actions
use Rattle.rv_flat.specs.Memory.{byte_in}
use Rattle.rv_word.specs.declared.reg.Reg.{Reg}
use Rattle.section_ctl.specs.State.{IsLive, Reserved, hold_in}
use Rattle.section_view.proofs.Laws.Arming.{armed_elides}
use Rattle.section_view.specs.ArmedLaws.{elided}
use Rattle.section_view.specs.KeptRun.{KeepsRun}
use Rattle.snoop.proofs.Laws.Living.{lives_unarmed}
use Rattle.snoop.specs.Asking.{HasNoRequest}
use Rattle.snoop.specs.Leaving.{LeavesNoted}
use Rattle.snoop.specs.Returned.{returned}
use Rattle.snoop.specs.Shows.{IsReady, BusState, Shows}
use Rattle.step_rules.proofs.Laws.NextAction.{next_conditional}
use Rattle.write_hold.proofs.Laws.LookUps.{held_nothing as held_nothing_at}
use Rattle.write_hold.specs.Held.{held}

-- the hart whose word's line is marked again, still armed
abbrev marked_of : ModelState → ℕ → Swap → Hart
marked_of from h swap =
    record (hart_of from h) {
      held_line = None;
      cache = touched (marked (hart_of from h).cache (line_number swap.word) Read) (line_number swap.word);
    }

by_elides : (from : ModelState) (h : ℕ) (armed : Armed) (swap : Swap) →
    (by_armed_rule from h armed (Elides swap)).state ≡ state_began from h swap
unfolding by_armed_rule
by_elides from h armed swap = refl

module _ (old : Parts) (hart : HartId) (armed : Armed) (swap : Swap) (from : ModelState)
    (follows : FollowsArmed old hart.number armed (Elides swap) from) where
  abbrev h : ℕ
  h = hart.number

  -- the line of its word is there
  pub line_there : is_resident (sets_in old h).residency (line_number swap.word) ≡ true
  line_there =
      subst (λ word. is_resident (sets_in old h).residency (line_number word) ≡ true)
      (sym (elides_at from h armed swap follows.rule_is).word)
      (word_line_there old h from armed follows.acts)

  -- what is marked there is the line of the word that the SC is to
  pub marked_for : (cache : Slotted) → IsReadMarked (sets_in old h) cache (line_number armed.word) →
      IsReadMarked (sets_in old h) cache (line_number swap.word)
  marked_for cache marks =
      subst (λ word. IsReadMarked (sets_in old h) cache (line_number word))
      (sym (elides_at from h armed swap follows.rule_is).word) marks

  -- the SC is the action that comes next
  pub conditional_there : (action : Action) → action ≡ next_action old h → IsConditionalOf action swap
  conditional_there action is =
      let shown = shown_armed from h armed in
      conditional_action (byte_in shown.base shown.bytes) action swap
      (next_conditional action shown h (next_private old h from armed action follows.acts is)
      ∙ (elides_at from h armed swap follows.rule_is).next)

  pub inside_cache : h < length old.bus.copies.caches
  inside_cache = inside_caches old h from follows.acts.may

  module _ (cache : Slotted) (marks : IsReadMarked (sets_in old h) cache (line_number swap.word)) where
    armed_there : 1 ≤ armed_count (hart_of from h).armed
    armed_there =
        let some = (keeps_private old h from armed follows.acts).short.some in
        let same : armed_count (hart_of from h).armed ≡ armed.count = ap armed_count follows.acts.armed_is in
        omega (arith, some, same)

    is_cache : IsCacheOf old.bus h cache (marked_of from h swap)
    is_cache =
        marked_cache old.bus h (line_number swap.word) cache from _ (held_nothing from h) (marked_of from h swap)
        (freed_between old h from follows.acts.may) marks refl (ap is_some follows.acts.no_section) armed_there

    marked_back : IsBetween (returned old.bus h cache) from (with_hart from h (marked_of from h swap)) h
        (marked_of from h swap)
    marked_back =
        returned_between old.bus from _ h cache (held_nothing from h) (marked_of from h swap) inside_cache
        (freed_between old h from follows.acts.may) refl refl is_cache

    pub marked_ready : IsReady (returned old.bus h cache)
    marked_ready =
        let may = follows.acts.may in
        let k = keeps_private old h from armed follows.acts in
        ready_between old.bus from _ h cache (held_nothing from h) inside_cache may.ready (freed_between old h from may)
        refl refl may.free
        (marked_formed old.bus h (line_number swap.word) cache inside_cache may.ready marks)
        (λ plain.
        absurd (read_not_plain old.bus h (line_number armed.word) (cache_of from h) may.ready k.cache k.run.read plain))

    bits : has_marks (marked_of from h swap).cache ≡ true
    bits =
        let k = keeps_private old h from armed follows.acts in
        subst (λ c. has_marks (touched (marked c (line_number swap.word) Read) (line_number swap.word)) ≡ true) k.cache
        (has_bit_now (sets_in old h).ways (line_number swap.word) (sets_in old h).residency
        (follows.acts.may.ready.well_formed h inside_cache) line_there)

    module _ (mid : BusState) (noted : LeavesNoted h 0 (returned old.bus h cache) mid) where
      noted_back : IsBetween mid from (with_hart from h (entered swap (hart_of from h))) h
          (entered swap (hart_of from h))
      noted_back =
          noted_between (returned old.bus h cache) mid from _ h 0 (marked_of from h swap)
          (entered swap (hart_of from h)) marked_back noted refl refl
          refl (sym (lives_unarmed (marked_of from h swap).cache 0 refl ∙ bits))

      pub agent_there : h < length mid.agents
      agent_there = subst (λ n. h < n) (sym noted_back.shows.agent_each) noted_back.there

      pub waits_not : HasNoRequest mid h
      waits_not =
          free_between mid from _ h (entered swap (hart_of from h)) noted_back refl refl follows.acts.may.free

      module _ (bus : BusState) (same : bus.copies ≡ mid.copies) (shows : (state : ModelState) → Shows mid state →
          Shows bus (with_hart state h (open_attempt state.config.mode h (hart_of state h)))) (rd :
          Reg) (address value : ℕ)
          (is : actions.StoreConditional rd address value ≡ next_action old h) (kept : Reserved)
          (kept_is : (own_at old.harts h).section.armed ≡ Some kept) where
        abbrev own : OwnState
        own = elided_own kept swap.new rd.number (own_at old.harts h)

        shown : Shows bus (state_began from h swap)
        shown =
            subst (Shows bus) (opened_state from h swap (keeps_private old h from armed follows.acts).below)
            (shows (with_hart from h (entered swap (hart_of from h))) noted_back.shows)

        reserved_is : kept ≡ record { armed = armed; old = (keeps_private old h from armed follows.acts).old }
        reserved_is = same_Some kept _ (sym kept_is ∙ (keeps_private old h from armed follows.acts).is)

        own_now : IsOfHart old.pool (state_began from h swap) h own
        own_now =
            let k = keeps_private old h from armed follows.acts in
            let at = elides_at from h armed swap follows.rule_is in
            let was = follows.acts.may.is_in.harts h follows.acts.may.exists in
            let now = began_hart from.config.mode h swap (hart_of from h) in
            let here = hart_of-with_hart_same from h now k.below in
            let done =
            armed_elides from.committed h (cache_of from h) armed k.old (present_at old.harts h) swap rd address value
            k.run k.keeps at.next at.word
            (sym (is ∙ same_action old h from follows.acts.may)) in
            let section : Section = elided armed k.old swap.new in
            let same : own.section.live ≡ Some section = ap (λ r. Some (elided r.armed r.old swap.new)) reserved_is in
            let began : now.section ≡ Some section =
            ap (λ count. Some (record { count = count; word = swap.word; old = swap.old; new = swap.new }))
            (ap (λ a. suc (armed_count a)) follows.acts.armed_is ∙ one_more armed.count)
            ∙ ap (λ word. Some (record { count = armed.count + 1; word = word; old = swap.old; new = swap.new }))
            at.word
            ∙ ap (λ o. Some (record { count = armed.count + 1; word = armed.word; old = o; new = swap.new }))
            done.found in
            let part : HasOwn own now = record {
              section = same ∙ sym began;
              armed = refl;
              last_lr = k.part.last_lr;
              predictor = ap (λ p. unwatched p) k.part.predictor;
              fallback = k.part.fallback;
              tries = k.part.tries;
            } in
            record {
              part = subst (HasOwn own) (sym here) part;
              view = committed_beside _ _ _ k.stands.mark ∙ was.view;
              section =
                  subst (λ live. KeepsSectionOf old.pool (state_began from h swap) h live own.section)
                  (sym (ap (λ hart. hart.section) here ∙ began))
                  (record {
                    run =
                        subst (KeepsRun from.committed h section
                        (release_of (put_of (present_at old.harts h) rd.number 0)))
                        (sym (holds_none old.pool own.section.hold k.stands.empty)) done.keeps;
                    marked =
                        nothing_marked (cache_of (state_began from h swap) h) (hold_in old.pool own.section).entries
                        (holds_none old.pool own.section.hold k.stands.empty);
                  });
              armed = tt;
              stands =
                  subst (λ r. IsLive own.section.marks own.section.hold (elided r.armed r.old swap.new))
                  (sym reserved_is)
                  (record {
                    mark = k.stands.mark;
                    running = k.stands.running;
                    aligned = k.stands.aligned;
                    free = λ pool place low high.
                        subst (λ entries. held entries place ≡ None)
                        (sym (holds_none pool own.section.hold k.stands.empty)) (held_nothing_at place);
                  });
              limit = was.limit;
              owner = was.owner;
              lent = was.lent;
            }
          where
            one_more : (n : ℕ) → suc n ≡ n + 1
            one_more n = omega arith

        pub elided_in : IsInState (record old { bus = bus; harts = slice_set old.harts h own })
            (armed_turn from h armed).state
        elided_in =
            stepped_armed old _ hart from armed (Elides swap) (state_began from h swap) follows
            (by_elides from h armed swap)
            (stays_in_place from.committed)
            (began_stepped old h from swap bus own follows.acts.may shown
            (told_copies old.pool (returned old.bus h cache) bus _ (same ∙ noted.copies_stay)
            (told_same old.pool old.bus h cache _ follows.acts.may.is_in.told inside_cache marks.keeps))
            own_now)
