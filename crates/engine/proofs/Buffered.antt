-- the parts after an instruction of a section was buffered
use Rattle.std.proofs.Common.{◌≡◌, ◌∙◌, ℕ, ◌+◌, ◌≤◌, ◌<◌, ◌||◌, true, List, length, Option, Some, None, is_some, refl}
use Rattle.std.proofs.Common.{ap, sym, subst}
use Rattle.std.specs.Prelude.{IfSome, IsSome}
use Rattle.std.proofs.lemmas.List.{get_or-set_same, length-set}
use Rattle.residency.specs.Cache.{has_marks, is_resident, write_bits_of}
use Rattle.residency.specs.Residency.{Way}
use Rattle.cache_sets.specs.Cached.{cached_byte}
use Rattle.cache_sets.specs.Slotted.{Slotted, lent}
use Rattle.coherence.specs.Lent.{no_slotted}
use Rattle.residency.specs.WellFormed.{IsWellFormed}
use Rattle.el_base.specs.Line.{line_number}
use Rattle.el_base.specs.declared.hart_id.HartId.{HartId}
use Rattle.el_model.proofs.Laws.Harts.{hart_of-with_hart_same}
use Rattle.el_model.specs.InSection.{Buffers, buffered_hart, covered, section_turn}
use Rattle.el_model.specs.Plain.{armed_count}
use Rattle.el_model.specs.State.{Hart, ModelState, Section, cache_of, hart_of, with_hart}
use Rattle.el_model.specs.Upcoming.{Touch}
use Rattle.engine.proofs.Buffers.{CanBuffer, are_few, buffers_turn, can_buffer, does_as_shown, is_counted, is_there}
use Rattle.engine.proofs.Buffers.{may_run}
use Rattle.engine.proofs.Framed.{given_twice, told_moved}
use Rattle.engine.proofs.LentThere.{inside_caches, lent_there, still_beside}
use Rattle.engine.proofs.Covering.{IsThere, covered_twice, formed_covered, marked_covered, marks_covered}
use Rattle.engine.proofs.KeptLive.{next_inside}
use Rattle.engine.proofs.Misses as misses
use Rattle.engine.proofs.Misses.{freed_part}
use Rattle.engine.proofs.Others.{others_kept}
use Rattle.engine.proofs.Stepped.{HasStepped, IsCacheOf, StaysInPlace, after_step, freed_between, read_not_plain}
use Rattle.engine.proofs.Stepped.{ready_between, shows_between, stays_in_place}
use Rattle.engine.specs.Acting.{MayAct, freed, next_action, sets_in}
use Rattle.engine.specs.Covered.{HasItsBitNow, IsTouchedThere}
use Rattle.engine.specs.Inside.{FollowsRule}
use Rattle.engine.specs.Parts.{IsInState, IsOfHart, KeepsReserved, KeepsSection, KeepsSectionOf, Parts, StandsAs}
use Rattle.engine.specs.Parts.{own_at}
use Rattle.engine.specs.Private.{BuffersIn, IsLentStill, MayRunPrivately, RanOver, RanPrivately, kept_of, with_own}
use Rattle.hart_state.proofs.Laws.Harts.{buffered_is}
use Rattle.hart_state.specs.Deeds.{buffered_own}
use Rattle.hart_state.specs.Own.{HasOwn, new_own}
use Rattle.line_pool.specs.Pooled.{Pooled}
use Rattle.reg_mark.specs.Marks.{checkpoint_or, committed_of}
use Rattle.rv_alu.specs.Execution.{store_in, view_after}
use Rattle.rv_alu.specs.declared.action.Action.{Action}
use Rattle.rv_alu.specs.declared.view.HartView.{HartView}
use Rattle.rv_flat.specs.FlatState.{no_hart}
use Rattle.section_ctl.proofs.Laws.Begins.{stays_live}
use Rattle.section_ctl.specs.Calls.{HasRun, MayBuffer, MayContinue, run_of}
use Rattle.section_ctl.specs.Lent.{LeavesBeside, LendsBoth}
use Rattle.section_ctl.specs.State.{IsLive, SectionState, hold_in}
use Rattle.section_view.proofs.Laws.GoingOn.{goes_on}
use Rattle.section_view.specs.KeptRun.{HoldsMarked, section_byte, section_execution}
use Rattle.section_view.specs.Laws.{GoesOn, HoldsAfter}
use Rattle.snoop.proofs.Laws.Living.{lives_unarmed}
use Rattle.snoop.specs.Returned.{returned}
use Rattle.snoop.specs.Shows.{IsReady, lives}
use Rattle.step_rules.proofs.Laws.NextAction as next

-- a section with one instruction more
abbrev longer : Section → Section
longer section = record section { count = section.count + 1 }

pub committed_beside : (mark : Option HartView) (first second : HartView) → IsSome mark →
    checkpoint_or mark first ≡ checkpoint_or mark second
committed_beside None first second some = absurd (cc)
committed_beside (Some mark) first second some = refl

module _ (old new : Parts) (hart : HartId) (from : ModelState) (section : Section) (touch : Option Touch)
    (action : Action) (follows : FollowsRule old hart.number from section (Buffers touch))
    (is : action ≡ next_action old hart.number) (done : BuffersIn old new hart.number touch action) where
  abbrev h : ℕ
  h = hart.number

  -- the cache with the bit that is wanted, and then the pool, the cache and the section after the run
  abbrev mid : Slotted
  mid = done.marked

  abbrev pool : Pooled
  pool = done.pool

  abbrev cache : Slotted
  cache = done.cache

  abbrev later : SectionState
  later = done.section

  abbrev may : MayAct old h from
  may = follows.inside.may

  can : CanBuffer old h from section touch mid
  can = can_buffer old h from section touch mid follows done.bit

  ran : HasRun old.pool pool (kept_of old h) later section
      (run_of old.pool (kept_of old h) section (lent old.pool mid) action)
  ran =
      subst
      (λ live. IfSome live (λ s. HasRun old.pool pool (kept_of old h) later s
      (run_of old.pool (kept_of old h) s (lent old.pool mid) action)))
      can.kept.live done.over.ran

  still : IsLentStill old.pool pool (sets_in old h) cache (kept_of old h).hold later.hold
  still = record {
    both = done.over.still.both;
    hold_owner = done.over.still.hold_owner;
    cache_owner = done.over.still.cache_owner ∙ done.bit.keeps.owner;
    beside =
        subst (λ owner. LeavesBeside owner (kept_of old h).hold.owner old.pool pool) done.bit.keeps.owner
        done.over.still.beside;
  }

  same_run : run_of old.pool (kept_of old h) section (lent old.pool mid) action
      ≡ section_execution from.committed section (kept_of old h).marks.present
      (hold_in old.pool (kept_of old h)).entries
      (cached_byte (lent old.pool mid))
  same_run = does_as_shown old h from section touch mid action follows.inside can is

  -- its run is kept with one instruction more
  goes : GoesOn from.committed h mid.residency section later.marks.present (hold_in old.pool (kept_of old h))
      (hold_in pool later)
  goes =
      let view = (kept_of old h).marks.present in
      subst
      (λ v. GoesOn from.committed h mid.residency section v (hold_in old.pool (kept_of old h)) (hold_in pool later))
      (sym (ap (λ marks. marks.present) ran.marks ∙ ap (λ execution. view_after execution view) same_run))
      (goes_on from.committed h mid.residency mid.residency section view (hold_in old.pool (kept_of old h))
      (hold_in pool later)
      (cached_byte (lent old.pool mid)) can.is_kept.run can.is_kept.keeps can.agree can.step
      (subst (λ execution. HoldsAfter (store_in execution) (hold_in old.pool (kept_of old h)) (hold_in pool later))
      same_run ran.hold))

  still_live : IsLive later.marks later.hold (longer section)
  still_live =
      let kept = kept_of old h in
      let calls = may_run old h from section touch mid action follows.inside can is in
      subst (λ marks. IsLive marks later.hold (longer section)) (sym ran.marks)
      (stays_live old.pool pool kept.marks kept.hold later.hold section (section.count + 1) action
      (section_byte (hold_in old.pool kept).entries section.word section.new (cached_byte (lent old.pool mid))) _
      can.kept.stands calls.goes_on
      calls.unmixed refl ran.hold)

  abbrev now : Hart
  now = buffered_hart section touch (hart_of from h)

  abbrev state : ModelState
  state = with_hart from h now

  own_then : IsOfHart pool state h (buffered_own later (own_at old.harts h))
  own_then =
      let own = own_at old.harts h in
      let was = may.is_in.harts h may.exists in
      let below = misses.is_there old from h may in
      let here = hart_of-with_hart_same from h now below in
      let part = freed_part old from h may in
      let kept : KeepsSection pool state h (longer section) later = record {
        run = goes.keeps;
        marked = subst (λ c. HoldsMarked c (hold_in pool later).entries) (sym (ap (λ hart. hart.cache) here))
            (marked_covered (cache_of from h) touch (hold_in pool later).entries
            (subst (λ c. HoldsMarked c (hold_in pool later).entries) can.residency (goes.marked can.marked)));
      } in
      record {
        part = subst (HasOwn (buffered_own later own)) (sym here)
            (buffered_is section touch later own (record (hart_of from h) { held_line = None }) part ran.live
            ran.armed can.kept.unarmed_there);
        view =
            ap committed_of ran.marks ∙ committed_beside own.section.marks.mark _ _ can.kept.stands.mark ∙ was.view;
        section = subst (λ live. KeepsSectionOf pool state h live later) (sym (ap (λ hart. hart.section) here)) kept;
        armed = subst (λ armed. KeepsReserved state.committed h armed later.marks.present) (sym ran.armed) tt;
        stands = subst (λ l. StandsAs later.marks later.hold l later.armed) (sym ran.live)
            (subst (StandsAs later.marks later.hold (Some (longer section))) (sym ran.armed) still_live);
        limit = ran.limit ∙ was.limit;
        owner = still.hold_owner ∙ was.owner;
        lent = still.both.hold_lent;
      }

  residency_then : cache.residency ≡ covered (cache_of from h) touch
  residency_then =
      let touches =
      next.next_touch action _ h (next_inside old h from section action follows.inside is) ∙ can.may.touches in
      done.over.covers.residency
      ∙ ap (covered mid.residency) touches
      ∙ ap (λ c. covered c touch) can.residency
      ∙ covered_twice (cache_of from h) touch (is_there from h section touch can.may)

  is_cache : IsCacheOf old.bus h cache now
  is_cache = record {
    ways = done.over.covers.ways ∙ done.bit.ways;
    residency = sym residency_then;
    live =
        sym (ap (λ armed. lives cache.residency (armed_count armed)) can.kept.unarmed_there
        ∙ lives_unarmed cache.residency 0 refl
        ∙ ap has_marks residency_then ∙ marks_covered (cache_of from h) touch _ can.kept.run.read);
  }

  pub buffered_ready : IsReady new.bus
  buffered_ready =
      let inside = inside_caches old h from may in
      let formed = subst (IsWellFormed (sets_in old h).ways) can.kept.cache (may.ready.well_formed h inside) in
      subst (λ parts. IsReady parts.bus) (sym done.new_is)
      (ready_between old.bus from (freed from h) h cache _ inside may.ready (freed_between old h from may)
      refl refl may.free
      (subst (λ ways. IsWellFormed ways cache.residency) (sym is_cache.ways)
      (subst (IsWellFormed (sets_in old h).ways) (sym residency_then)
      (formed_covered (sets_in old h).ways (cache_of from h) touch formed)))
      (λ plain.
      absurd (read_not_plain old.bus h (line_number section.word) (cache_of from h) may.ready can.kept.cache
      can.kept.run.read plain)))

  pub buffered_in : IsInState new (section_turn from h section).state
  buffered_in =
      let own = buffered_own later (own_at old.harts h) in
      let then_parts = with_own old h pool cache own in
      let none = new_own no_hart 0 0 in
      let inside = inside_caches old h from may in
      let turn = buffers_turn from h section touch follows.rule_is in
      let beside = still_beside old h from pool cache later.hold may still in
      let stepped : HasStepped old then_parts h state = record {
        config = refl;
        span = refl;
        code = refl;
        output = refl;
        shows =
            shows_between old.bus from (freed from h) h cache _ now inside (freed_between old h from may)
            refl refl is_cache;
        told =
            told_moved old.pool pool old.bus h cache _ may.is_in.told inside still.cache_owner
            still.both.cache_lent beside
            (λ line. done.over.covers.copies line ∙ done.bit.keeps.copies old.pool line);
        beside = beside;
        each = length-set old.harts h own;
        own = subst (IsOfHart pool state h) (sym (get_or-set_same old.harts h own none may.exists)) own_then;
        others = others_kept old h from own from.committed may (λ g other. refl);
      } in
      subst (λ parts. IsInState parts (section_turn from h section).state) (sym done.new_is)
      (after_step old then_parts hart from section follows.inside
      (subst (λ t. StaysInPlace from.committed t.state.committed) (sym turn) (stays_in_place from.committed))
      (subst (λ t. HasStepped old then_parts h t.state) (sym turn) stepped))

-- the bit first, and then the run
pub some_live : (live : Option Section) (section : Section) (P : Section → Type 0) → live ≡ Some section →
    P section → IfSome live P
some_live live section P is told = subst (λ l. IfSome l P) (sym is) told

module _ (old : Parts) (hart : HartId) (from : ModelState) (section : Section) (touch : Option Touch) (action : Action)
    (follows : FollowsRule old hart.number from section (Buffers touch))
    (is : action ≡ next_action old hart.number) (mid : Slotted)
    (bit : HasItsBitNow (sets_in old hart.number) mid touch) where
  abbrev k : ℕ
  k = hart.number

  abbrev marked_parts : Parts
  marked_parts = record old { bus = returned old.bus k mid }

  there : k < length old.bus.copies.caches
  there = inside_caches old k from follows.inside.may

  sets_are : sets_in marked_parts k ≡ mid
  sets_are = get_or-set_same old.bus.copies.caches k mid no_slotted there

  pub may_run_inside : MayRunPrivately marked_parts k action
  may_run_inside =
      let could = can_buffer old k from section touch mid follows bit in
      let lends = lent_there old k from follows.inside.may in
      let live = could.kept.live in
      record {
        there = record {
          hart_exists = lends.hart_exists;
          cache_exists = subst (λ n. k < n) (sym (length-set old.bus.copies.caches k mid)) there;
          both =
              subst (λ sets. LendsBoth old.pool sets (kept_of old k).hold) (sym sets_are)
              (record {
                cache_lent = bit.keeps.lent old.pool lends.both.cache_lent;
                hold_lent = lends.both.hold_lent;
                apart = λ same. lends.both.apart (sym bit.keeps.owner ∙ same);
              });
        };
        either = ap (λ l. is_some l || is_some (kept_of old k).armed) live;
        buffered =
            subst (λ sets. IfSome (kept_of old k).live
            (λ s. MayBuffer old.pool (kept_of old k) s (lent old.pool sets) action)) (sym sets_are)
            (some_live (kept_of old k).live section
            (λ s. MayBuffer old.pool (kept_of old k) s (lent old.pool mid) action) live
            (may_run old k from section touch mid action follows.inside could is));
        counted =
            some_live (kept_of old k).live section (λ s. s.count + 1 < 4294967296) live
            (is_counted old k from section follows.inside);
        quiet = subst (λ armed. IfSome armed (λ reserved. MayContinue reserved action)) (sym could.kept.unarmed) tt;
        marked =
            subst (λ (sets : Slotted). HoldsMarked sets.residency (hold_in old.pool (kept_of old k)).entries)
            (sym sets_are) could.marked;
        few =
            subst (λ (sets : Slotted). write_bits_of sets.residency ≤ (kept_of old k).hold.limit) (sym sets_are)
            (are_few old hart from section touch mid follows bit);
      }

  -- so both have buffered it
  pub has_buffered : (new : Parts) → RanPrivately marked_parts new k action → BuffersIn old new k touch action
  has_buffered new ran = record {
    marked = mid;
    bit = bit;
    pool = ran.pool;
    cache = ran.cache;
    section = ran.section;
    over =
        subst (λ sets. RanOver old.pool ran.pool sets ran.cache (kept_of old k) ran.section action) sets_are ran.over;
    new_is = ran.new_is ∙ given_twice old k mid ran.pool ran.cache (buffered_own ran.section (own_at old.harts k));
  }

-- the line that is touched is in the cache
pub touched_there : (sets : Slotted) (lines : List (List Way)) (touch : Option Touch) → sets.residency ≡ lines →
    IsThere lines touch → IsTouchedThere sets touch
touched_there sets lines None is resident = tt
touched_there sets lines (Some touch) is resident = subst (λ c. is_resident c touch.line ≡ true) (sym is) resident
