-- the parts after an armed section has gone on, and after it was let go
use Rattle.std.proofs.Common.{◌≡◌, ◌∙◌, ℕ, suc, ◌+◌, ◌≤◌, true, false, None, Some, is_some, refl, ap}
use Rattle.std.proofs.Common.{sym, subst, arith}
use Rattle.std.specs.Prelude.{◌==◌, IfSome, IsSome, not, option_map, slice_set}
use Rattle.std.proofs.lemmas.Bool.Decides.{nat_tests}
use Rattle.std.proofs.lemmas.List.{get_or-set_same, length-set}
use Rattle.bus_agent.specs.Agent.{agent_of}
use Rattle.residency.proofs.Laws.WellFormedLemmas.{well_formed-cleared}
use Rattle.residency.proofs.Laws.Unmarked.{unmarked-cleared}
use Rattle.residency.specs.Cache.{cleared, has_marks}
use Rattle.cache_sets.specs.Slotted.{Slotted}
use Rattle.coherence.specs.Beginning.{line_of}
use Rattle.residency.specs.WellFormed.{IsWellFormed}
use Rattle.el_base.specs.declared.hart_id.HartId.{HartId}
use Rattle.el_model.proofs.Laws.Harts.{hart_of-with_hart_same}
use Rattle.el_model.specs.Armed.{ArmedRule, Continues, LetsGo, armed_turn, by_armed_rule, continued_hart, let_go_hart}
use Rattle.el_model.specs.InSection.{covered}
use Rattle.el_model.specs.Plain.{armed_count}
use Rattle.el_model.specs.State.{Armed, Hart, ModelState, hart_of, with_hart}
use Rattle.engine.proofs.ArmedRules.{continues_at, turn_is}
use Rattle.engine.proofs.Buffered.{committed_beside}
use Rattle.engine.proofs.LentThere.{inside_caches, still_beside}
use Rattle.engine.proofs.Framed.{IsClearedThere, beside_same, told_copies, told_moved, told_same}
use Rattle.engine.proofs.KeptPrivate.{keeps_private}
use Rattle.engine.proofs.Others.{others_kept}
use Rattle.engine.proofs.PrivateCalls.{untouched}
use Rattle.engine.proofs.Stepped.{HasStepped, IsBetween, IsCacheOf, StaysInPlace, after_turn, armed_turn_is}
use Rattle.engine.proofs.Stepped.{freed_between, noted_between}
use Rattle.engine.proofs.Stepped.{ready_between, returned_between, runs, shows_committed, stays_in_place}
use Rattle.engine.proofs.Stepped.{told_committed}
use Rattle.engine.specs.Acting.{next_action, sets_in}
use Rattle.engine.specs.Armed.{FollowsArmed}
use Rattle.engine.specs.Private.{RanOver, kept_of}
use Rattle.engine.specs.Parts.{IsInState, IsOfHart, KeepsReserved, KeepsSectionOf, Parts, StandsAs, own_at, present_at}
use Rattle.engine.proofs.KeptLive.{same_action}
use Rattle.hart_state.specs.Deeds.{buffered_own, let_go_own}
use Rattle.hart_state.specs.Own.{HasOwn, OwnState, new_own}
use Rattle.line_pool.specs.Pooled.{Pooled}
use Rattle.reg_mark.specs.Marks.{committed_of}
use Rattle.run_laws.proofs.Laws.ButAView.{armed_runs_keep_all_but_a_view}
use Rattle.run_laws.proofs.Laws.Growing.{continued_run}
use Rattle.run_laws.specs.PrivateRun.{KeepsAllButAView}
use Rattle.rv_alu.specs.Execution.{perform, view_after}
use Rattle.rv_alu.specs.declared.action.Action.{Action}
use Rattle.rv_flat.specs.FlatState.{no_hart, view_of}
use Rattle.rv_flat.specs.Run.{alone}
use Rattle.rv_flat.specs.Step.{action_of}
use Rattle.section_ctl.specs.Calls.{HasContinued}
use Rattle.section_ctl.specs.State.{Reserved, SectionState}
use Rattle.section_view.proofs.Laws.Arming.{armed_goes}
use Rattle.section_view.specs.KeptRun.{KeepsArmed}
use Rattle.snoop.proofs.Laws.Living.{lives_armed, lives_unarmed}
use Rattle.snoop.specs.Leaving.{LeavesNoted}
use Rattle.snoop.specs.Returned.{returned}
use Rattle.snoop.specs.Shows.{IsReady, BusState, Shows, Tells}

-- the parts are in the state after a hart with an armed section has stepped, where it is this one
pub stepped_armed : (old new : Parts) (hart : HartId) (from : ModelState) (armed : Armed) (rule : ArmedRule)
    (state : ModelState) → FollowsArmed old hart.number armed rule from →
    (by_armed_rule from hart.number armed rule).state ≡ state → StaysInPlace from.committed state.committed →
    HasStepped old new hart.number state → IsInState new (armed_turn from hart.number armed).state
stepped_armed old new hart from armed rule state follows is stays stepped =
    let turn = ap (λ t. t.state) (turn_is from hart.number armed rule follows.rule_is) ∙ is in
    after_turn old new hart from (armed_turn from hart.number armed) follows.acts.may
    (armed_turn_is old hart from armed follows.acts)
    (subst (λ s. StaysInPlace from.committed s.committed) (sym turn) stays)
    (subst (HasStepped old new hart.number) (sym turn) stepped)

not_zero : (n : ℕ) → 1 ≤ n → true ≡ not (n == 0)
not_zero n some =
    let differs : (n == 0) ≡ false = grind (arith, nat_tests) in
    sym (ap not differs)

-- the hart whose armed section has gone on, before its new count is noted, and then
abbrev pub held_nothing : ModelState → ℕ → Hart
held_nothing from h = record (hart_of from h) { held_line = None }

by_continues : (from : ModelState) (h : ℕ) (armed : Armed) →
    (by_armed_rule from h armed Continues).state ≡ with_hart from h (continued_hart armed (hart_of from h))
unfolding by_armed_rule
by_continues from h armed = refl

module _ (old : Parts) (hart : HartId) (armed : Armed) (from : ModelState)
    (follows : FollowsArmed old hart.number armed Continues from)
    (action : Action) (is : action ≡ next_action old hart.number) (pool : Pooled) (cache : Slotted)
    (section : SectionState)
    (over : RanOver old.pool pool (sets_in old hart.number) cache (kept_of old hart.number) section action) where
  abbrev h : ℕ
  h = hart.number

  -- nothing has changed in the cache
  same_residency : cache.residency ≡ (sets_in old h).residency
  same_residency =
      over.covers.residency ∙ ap (covered (sets_in old h).residency) (untouched old h armed from follows action is)

  some_count : 1 ≤ armed.count
  some_count = (keeps_private old h from armed follows.acts).short.some

  count_there : armed_count (hart_of from h).armed ≡ armed.count
  count_there = ap armed_count follows.acts.armed_is

  is_cache : IsCacheOf old.bus h cache (held_nothing from h)
  is_cache = record {
    ways = over.covers.ways;
    residency = sym (same_residency ∙ (keeps_private old h from armed follows.acts).cache);
    live =
        ap is_some follows.acts.no_section
        ∙ sym (lives_armed cache.residency (armed_count (hart_of from h).armed)
        (omega (arith, some_count, count_there)));
  }

  given_back : IsBetween (returned old.bus h cache) from (with_hart from h (held_nothing from h)) h
      (held_nothing from h)
  given_back =
      returned_between old.bus from _ h cache (held_nothing from h) (held_nothing from h)
      (inside_caches old h from follows.acts.may)
      (freed_between old h from follows.acts.may) refl refl is_cache

  pub continued_ready : IsReady (returned old.bus h cache)
  continued_ready =
      let may = follows.acts.may in
      let formed = may.ready.well_formed h (inside_caches old h from may) in
      ready_between old.bus from _ h cache (held_nothing from h) (inside_caches old h from may) may.ready
      (freed_between old h from may) refl refl
      may.free
      (subst (λ ways. IsWellFormed ways cache.residency) (sym over.covers.ways)
      (subst (IsWellFormed (sets_in old h).ways) (sym same_residency) formed))
      (λ plain. ap has_marks same_residency ∙ may.ready.unmarked plain h)

  continued_told : Tells pool (returned old.bus h cache) (line_of from.committed)
  continued_told =
      let may = follows.acts.may in
      told_moved old.pool pool old.bus h cache _ may.is_in.told (inside_caches old h from may) over.still.cache_owner
      over.still.both.cache_lent
      (still_beside old h from pool cache section.hold may over.still) over.covers.copies

  abbrev now : Hart
  now = continued_hart armed (hart_of from h)

  abbrev state : ModelState
  state = with_hart from h now

  module _ (bus : BusState) (noted : LeavesNoted h (armed.count + 1) (returned old.bus h cache) bus) where
    abbrev own : OwnState
    own = buffered_own section (own_at old.harts h)

    abbrev kept : Reserved
    kept = record { armed = armed; old = (keeps_private old h from armed follows.acts).old }

    ran : HasContinued (kept_of old h) section kept action
    ran =
        subst (λ r. IfSome r (λ reserved. HasContinued (kept_of old h) section reserved action))
        (keeps_private old h from armed follows.acts).is over.continued

    noted_now : Shows bus state
    noted_now =
        (noted_between (returned old.bus h cache) bus from _ h (armed.count + 1) (held_nothing from h) now
        given_back noted
        (ap (λ n. record (agent_of (held_nothing from h)) { armed = n }) one_more) refl
        (not_zero (armed.count + 1) (omega arith))
        (ap is_some follows.acts.no_section
        ∙ sym (lives_armed (hart_of from h).cache (armed.count + 1) (omega arith)))).shows
      where
        one_more : suc armed.count ≡ armed.count + 1
        one_more = omega arith

    own_now : IsOfHart pool state h own
    own_now =
        let k = keeps_private old h from armed follows.acts in
        let was = follows.acts.may.is_in.harts h follows.acts.may.exists in
        let here = hart_of-with_hart_same from h now k.below in
        let view = present_at old.harts h in
        let more : Reserved = record { armed = record armed { count = armed.count + 1 }; old = k.old } in
        let armed_then : section.armed ≡ Some more =
        ran.armed in
        let present : section.marks.present ≡ view_after (perform (action_of from.committed view) view (λ a. 0)) view =
        ap (λ marks. marks.present) (ran.marks (λ a. 0))
        ∙ ap (λ a. view_after (perform a view (λ b. 0)) view) (is ∙ same_action old h from follows.acts.may) in
        let goes =
        armed_goes from.committed h _ armed k.old view (λ a. 0) k.run k.keeps
        (continues_at from h armed follows.rule_is).quiet in
        let keeps : KeepsArmed from.committed h (record armed { count = armed.count + 1 }) k.old section.marks.present =
        subst (KeepsArmed from.committed h (record armed { count = armed.count + 1 }) k.old) (sym present) goes in
        let count : Some (record armed { count = armed.count + 1 }) ≡ now.armed =
        ap (λ n. Some (record armed { count = n })) (omega arith) in
        let part : HasOwn own now = record {
          section = ran.live ∙ sym follows.acts.no_section;
          armed = ap (option_map (λ r. r.armed)) armed_then ∙ count;
          last_lr = k.part.last_lr;
          predictor = k.part.predictor;
          fallback = k.part.fallback;
          tries = k.part.tries;
        } in
        let few = k.short.few in
        let at = continues_at from h armed follows.rule_is in
        let runs_on =
        (continued_run from h armed
        (record {
          is_armed = record {
            running = runs old h from follows.acts.may;
            free = follows.acts.may.free;
            no_section = follows.acts.no_section;
            armed_is = follows.acts.armed_is;
          };
          quiet = at.quiet;
          grows = at.grows;
        }) k.run).running (armed.count + 1) (omega arith) in
        record {
          part = subst (HasOwn own) (sym here) part;
          view = ap committed_of (ran.marks (λ a. 0)) ∙ committed_beside _ _ _ k.stands.mark ∙ was.view;
          section =
              subst (λ live. KeepsSectionOf pool state h live section)
              (sym (ap (λ hart. hart.section) here ∙ follows.acts.no_section)) tt;
          armed = subst (λ r. KeepsReserved from.committed h r section.marks.present) (sym armed_then) keeps;
          stands =
              subst (λ live. StandsAs section.marks section.hold live section.armed) (sym ran.live)
              (subst (StandsAs section.marks section.hold None) (sym armed_then)
              (record {
                mark = subst IsSome (sym (ap (λ marks. marks.mark) (ran.marks (λ a. 0)))) k.stands.mark;
                running = ap (λ v. v.status) keeps.view ∙ runs_on;
                aligned = k.stands.aligned;
                empty = ap (λ hold. hold.entries) ran.hold ∙ k.stands.empty;
                counted = omega (arith, few);
              }));
          limit = ap (λ hold. hold.limit) ran.hold ∙ was.limit;
          owner = over.still.hold_owner ∙ was.owner;
          lent = over.still.both.hold_lent;
        }

    pub continued_in :
        IsInState (record old { pool = pool; bus = bus; harts = slice_set old.harts h own })
        (armed_turn from h armed).state
    continued_in =
        let may = follows.acts.may in
        stepped_armed old _ hart from armed Continues state follows (by_continues from h armed)
        (stays_in_place from.committed)
        (record {
          config = refl;
          span = refl;
          code = refl;
          output = refl;
          shows = noted_now;
          told = told_copies pool (returned old.bus h cache) bus _ noted.copies_stay continued_told;
          beside = still_beside old h from pool cache section.hold may over.still;
          each = length-set old.harts h own;
          own =
              subst (IsOfHart pool state h) (sym (get_or-set_same old.harts h own (new_own no_hart 0 0) may.exists))
              own_now;
          others = others_kept old h from own from.committed may (λ g other. refl);
        })

-- the hart that is let go, with no bits, before that is noted, and then
abbrev unmarked_of : ModelState → ℕ → Hart
unmarked_of from h = record (hart_of from h) { held_line = None; cache = cleared (hart_of from h).cache }

abbrev freed_of : ModelState → ℕ → Hart
freed_of from h = let_go_hart (view_of from.committed h).pc (record (hart_of from h) { held_line = None })

abbrev state_freed : ModelState → ℕ → Armed → ModelState
state_freed from h armed =
    record (with_hart from h (freed_of from h)) { committed = alone from.committed h armed.count }

by_lets_go : (from : ModelState) (h : ℕ) (armed : Armed) →
    (by_armed_rule from h armed LetsGo).state ≡ state_freed from h armed
unfolding by_armed_rule
by_lets_go from h armed = refl

module _ (old : Parts) (hart : HartId) (armed : Armed) (from : ModelState)
    (follows : FollowsArmed old hart.number armed LetsGo from)
    (cache : Slotted) (clears : IsClearedThere (sets_in old hart.number) cache) where
  abbrev g : ℕ
  g = hart.number

  armed_there : 1 ≤ armed_count (hart_of from g).armed
  armed_there =
      let some = (keeps_private old g from armed follows.acts).short.some in
      let same : armed_count (hart_of from g).armed ≡ armed.count = ap armed_count follows.acts.armed_is in
      omega (arith, some, same)

  unmarked_cache : IsCacheOf old.bus g cache (unmarked_of from g)
  unmarked_cache = record {
    ways = clears.ways;
    residency = ap (λ c. cleared c) (sym (keeps_private old g from armed follows.acts).cache) ∙ sym clears.residency;
    live =
        ap is_some follows.acts.no_section
        ∙ sym (lives_armed cache.residency (armed_count (hart_of from g).armed) armed_there);
  }

  pub unmarked_back : IsBetween (returned old.bus g cache) from (with_hart from g (unmarked_of from g)) g
      (unmarked_of from g)
  unmarked_back =
      returned_between old.bus from _ g cache (held_nothing from g) (unmarked_of from g)
      (inside_caches old g from follows.acts.may)
      (freed_between old g from follows.acts.may) refl refl unmarked_cache

  pub unmarked_ready : IsReady (returned old.bus g cache)
  unmarked_ready =
      let may = follows.acts.may in
      let inside = inside_caches old g from may in
      let formed =
      well_formed-cleared (sets_in old g).ways (sets_in old g).residency (may.ready.well_formed g inside) in
      ready_between old.bus from _ g cache (held_nothing from g) inside may.ready (freed_between old g from may)
      refl refl may.free
      (subst (λ ways. IsWellFormed ways cache.residency) (sym clears.ways)
      (subst (IsWellFormed (sets_in old g).ways) (sym clears.residency) formed))
      (λ plain. ap has_marks clears.residency ∙ unmarked-cleared (sets_in old g).residency)

  keeps_rest : KeepsAllButAView g from.committed (alone from.committed g armed.count)
  keeps_rest = armed_runs_keep_all_but_a_view from.committed g _ armed (keeps_private old g from armed follows.acts).run

  module _ (bus : BusState) (noted : LeavesNoted g 0 (returned old.bus g cache) bus) where
    abbrev freed_own_now : OwnState
    freed_own_now = let_go_own (own_at old.harts g)

    freed_shows : Shows bus (state_freed from g armed)
    freed_shows =
        shows_committed bus (with_hart from g (freed_of from g)) (alone from.committed g armed.count)
        (record { base = keeps_rest.rest.shape.base; bytes = keeps_rest.rest.bytes })
        (noted_between (returned old.bus g cache) bus from _ g 0 (unmarked_of from g) (freed_of from g) unmarked_back
        noted refl refl refl
        (ap is_some follows.acts.no_section
        ∙ sym (lives_unarmed (cleared (hart_of from g).cache) 0 refl ∙ unmarked-cleared (hart_of from g).cache))).shows

    freed_now : IsOfHart old.pool (state_freed from g armed) g freed_own_now
    freed_now =
        let k = keeps_private old g from armed follows.acts in
        let own = own_at old.harts g in
        let was = follows.acts.may.is_in.harts g follows.acts.may.exists in
        let here = hart_of-with_hart_same from g (freed_of from g) k.below in
        let part : HasOwn freed_own_now (freed_of from g) = record {
          section = sym follows.acts.no_section;
          armed = refl;
          last_lr = ap (λ view. Some view.pc) was.view;
          predictor = k.part.predictor;
          fallback = k.part.fallback;
          tries = k.part.tries;
        } in
        record {
          part = subst (HasOwn freed_own_now) (sym here) part;
          view = k.keeps.view;
          section =
              subst (λ live. KeepsSectionOf old.pool (state_freed from g armed) g live freed_own_now.section)
              (sym (ap (λ hart. hart.section) here ∙ follows.acts.no_section)) tt;
          armed = tt;
          stands = record { unmarked = refl; empty = k.stands.empty };
          limit = was.limit;
          owner = was.owner;
          lent = was.lent;
        }

    pub let_go_in :
        IsInState (record old { bus = bus; harts = slice_set old.harts g freed_own_now })
        (armed_turn from g armed).state
    let_go_in =
        let may = follows.acts.may in
        stepped_armed old _ hart from armed LetsGo (state_freed from g armed) follows (by_lets_go from g armed)
        (record { shape = keeps_rest.rest.shape; output = keeps_rest.rest.output })
        (record {
          config = refl;
          span = refl;
          code = refl;
          output = refl;
          shows = freed_shows;
          told =
              told_committed old.pool bus from.committed (alone from.committed g armed.count)
              (record { base = keeps_rest.rest.shape.base; bytes = keeps_rest.rest.bytes })
              (told_copies old.pool (returned old.bus g cache) bus _ noted.copies_stay
              (told_same old.pool old.bus g cache _ may.is_in.told (inside_caches old g from may) clears.keeps));
          beside = beside_same g old.pool;
          each = length-set old.harts g freed_own_now;
          own =
              subst (IsOfHart old.pool (state_freed from g armed) g)
              (sym (get_or-set_same old.harts g freed_own_now (new_own no_hart 0 0) may.exists)) freed_now;
          others = others_kept old g from freed_own_now (alone from.committed g armed.count) may keeps_rest.others;
        })
