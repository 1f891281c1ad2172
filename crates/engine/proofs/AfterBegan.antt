-- a section has begun: the parts are in the definition's state
use Rattle.std.proofs.Common.{◌≡◌, ◌∙◌, ℕ, suc, ◌%◌, ◌<◌, true, List, [], length, Some, None, is_some, refl, ap, sym}
use Rattle.std.proofs.Common.{subst}
use Rattle.std.specs.Prelude.{slice_set}
use Rattle.std.proofs.lemmas.List.{get_or-set_same, length-set}
use Rattle.bus_agent.specs.Agent.{agent_of}
use Rattle.residency.proofs.Laws.MarkLemmas.{has_marks-marked, has_marks-touched}
use Rattle.residency.proofs.Laws.WellFormedLemmas.{well_formed-marked}
use Rattle.residency.specs.Cache.{has_marks, is_resident, marked, touched}
use Rattle.cache_sets.specs.Slotted.{Slotted}
use Rattle.residency.specs.Residency.{Way}
use Rattle.residency.specs.WellFormed.{IsWellFormed}
use Rattle.coherence.specs.Beginning.{line_of}
use Rattle.el_base.specs.Line.{line_number}
use Rattle.el_base.specs.declared.hart_id.HartId.{HartId}
use Rattle.el_base.specs.declared.outcomes.Need.TheVariants.{Read}
use Rattle.el_model.proofs.Laws.Harts.{hart_of-with_hart_same}
use Rattle.el_model.specs.Attempts.{open_attempt}
use Rattle.el_model.specs.Plain.{Begins, armed_count, began_hart, by_plain_rule, plain_rule}
use Rattle.el_model.specs.State.{Hart, ModelState, cache_of, hart_of, with_hart}
use Rattle.el_model.specs.Upcoming.{Swap}
use Rattle.engine.proofs.Chosen.{begins_not_plain, lock_there, next, swap_found}
use Rattle.engine.proofs.Framed.{beside_same, holds_none, told_copies, told_same}
use Rattle.engine.proofs.Misses.{own_cache, set_twice}
use Rattle.engine.proofs.Others.{others_kept}
use Rattle.engine.proofs.Outsiders.{step_is}
use Rattle.engine.proofs.StandsOutside.{has_cache, has_own, idle, inside, is_own, runs, runs_there, view_is}
use Rattle.engine.proofs.Stepped.{HasStepped, IsCacheOf, after_turn, freed_between, marked_formed, ready_between}
use Rattle.engine.proofs.Stepped.{agent_unarmed, shows_between, stays_in_place}
use Rattle.engine.specs.Acting.{ActsOutside, MayAct, next_action, sets_in}
use Rattle.engine.specs.Beginning.{BeganIn, IsReadMarked}
use Rattle.engine.specs.Parts.{IsInState, IsOfHart, KeepsSectionOf, Parts, own_at, present_at}
use Rattle.hart_state.proofs.Laws.Harts.{began_is}
use Rattle.hart_state.specs.Deeds.{began_own}
use Rattle.hart_state.specs.Own.{HasOwn, OwnState, new_own}
use Rattle.pair_table.specs.Predictor.{unwatched}
use Rattle.rv_alu.specs.Execution.{put_of, release_of}
use Rattle.rv_alu.specs.declared.action.Action.{Action}
use Rattle.rv_alu.specs.declared.action.Action.TheVariants as actions
use Rattle.rv_flat.specs.FlatState.{no_hart}
use Rattle.rv_word.specs.declared.insn.AmoOp.{AmoOp}
use Rattle.rv_word.specs.declared.reg.Reg.{Reg}
use Rattle.section_ctl.specs.State.{hold_in}
use Rattle.section_view.proofs.Laws.Beginning.{begins}
use Rattle.section_view.specs.KeptRun.{HoldsMarked, KeepsRun}
use Rattle.section_view.specs.Laws.{begun}
use Rattle.snoop.proofs.Laws.Living.{lives_unarmed}
use Rattle.snoop.specs.Returned.{returned}
use Rattle.snoop.specs.Shows.{IsReady, BusState, Shows, Tells}
use Rattle.write_hold.proofs.Laws.LookUps.{held_nothing}
use Rattle.write_hold.specs.Held.{Entry, held}

-- the hart before its attempt opens
abbrev pub entered : Swap → Hart → Hart
entered swap hart =
    record hart {
      section =
          Some (record { count = suc (armed_count hart.armed); word = swap.word; old = swap.old; new = swap.new });
      armed = None;
      cache = touched (marked hart.cache (line_number swap.word) Read) (line_number swap.word);
      held_line = None;
      predictor = unwatched hart.predictor;
    }

-- what holds nothing has no line without its bit
pub nothing_marked : (cache : List (List Way)) (entries : List Entry) → entries ≡ [] → HoldsMarked cache entries
nothing_marked cache entries none = subst (HoldsMarked cache) (sym none) (λ line wrong. absurd (cc))

-- a cache in which a line that is there got the read bit has marks
pub has_bit_now : (ways line : ℕ) (cache : List (List Way)) → IsWellFormed ways cache → is_resident cache line ≡ true →
    has_marks (touched (marked cache line Read) line) ≡ true
has_bit_now ways line cache well there =
    has_marks-touched ways (marked cache line Read) line (well_formed-marked ways cache line Read well)
    ∙ has_marks-marked ways cache line Read well there

-- the state then
abbrev pub state_began : ModelState → ℕ → Swap → ModelState
state_began state h swap = with_hart state h (began_hart state.config.mode h swap (hart_of state h))

-- once the attempt has opened, the bus shows it
pub opened_state : (state : ModelState) (h : ℕ) (swap : Swap) → h < length state.harts →
    with_hart (with_hart state h (entered swap (hart_of state h))) h
    (open_attempt state.config.mode h (hart_of (with_hart state h (entered swap (hart_of state h))) h))
    ≡ state_began state h swap
opened_state state h swap below =
    ap (λ hart. with_hart (with_hart state h (entered swap (hart_of state h))) h
    (open_attempt state.config.mode h hart))
    (hart_of-with_hart_same state h (entered swap (hart_of state h)) below)
    ∙ set_twice state h (entered swap (hart_of state h)) (began_hart state.config.mode h swap (hart_of state h))

-- where the hart keeps what is its own then, and the bus shows the state, the parts have come to be in it
pub began_stepped : (old : Parts) (h : ℕ) (state : ModelState) (swap : Swap) (bus : BusState) (own : OwnState) →
    MayAct old h state → Shows bus (state_began state h swap) → Tells old.pool bus (line_of state.committed) →
    IsOfHart old.pool (state_began state h swap) h own →
    HasStepped old (record old { bus = bus; harts = slice_set old.harts h own }) h (state_began state h swap)
began_stepped old h state swap bus own may shows told is =
    let none = new_own no_hart 0 0 in
    record {
      config = refl;
      span = refl;
      code = refl;
      output = refl;
      shows = shows;
      told = told;
      beside = beside_same h old.pool;
      each = length-set old.harts h own;
      own =
          subst (IsOfHart old.pool (state_began state h swap) h)
          (sym (get_or-set_same old.harts h own none may.exists)) is;
      others = others_kept old h state own state.committed may (λ g other. refl);
    }

module _ (parts : Parts) (h : ℕ) (state : ModelState) (action : Action) (acts : ActsOutside parts h state)
    (is : action ≡ next_action parts h)
    (swap : Swap) (rule : plain_rule state h ≡ Begins swap) (cache : Slotted)
    (read : IsReadMarked (sets_in parts h) cache (line_number swap.word)) where
  bits : has_marks cache.residency ≡ true
  bits =
      ap has_marks read.residency
      ∙ has_bit_now (sets_in parts h).ways (line_number swap.word) (sets_in parts h).residency
      (acts.may.ready.well_formed h (has_cache parts h state acts)) (lock_there parts h state action acts is swap rule)

  is_cache : IsCacheOf parts.bus h cache (entered swap (hart_of state h))
  is_cache = record {
    ways = read.ways;
    residency =
        ap (λ c. touched (marked c (line_number swap.word) Read) (line_number swap.word))
        (sym (own_cache parts state h acts.may))
        ∙ sym read.residency;
    live = sym (lives_unarmed cache.residency 0 refl ∙ bits);
  }

  -- the bus keeps the same of it, since it was not armed
  agent_stays : agent_of (entered swap (hart_of state h)) ≡ agent_of (record (hart_of state h) { held_line = None })
  agent_stays = agent_unarmed (record (hart_of state h) { held_line = None }) acts.no_armed

  -- the bus shows it, and is ready
  pub entered_shows : Shows (returned parts.bus h cache) (with_hart state h (entered swap (hart_of state h)))
  entered_shows =
      shows_between parts.bus state _ h cache _ (entered swap (hart_of state h)) (has_cache parts h state acts)
      (freed_between parts h state acts.may)
      agent_stays (sym (ap is_some acts.no_armed)) is_cache

  pub entered_ready : IsReady (returned parts.bus h cache)
  entered_ready =
      ready_between parts.bus state _ h cache _ (has_cache parts h state acts) acts.may.ready
      (freed_between parts h state acts.may) refl refl
      acts.may.free (marked_formed parts.bus h (line_number swap.word) cache (has_cache parts h state acts)
      acts.may.ready read)
      (λ plain.
      absurd (begins_not_plain parts h state action acts is swap rule (sym acts.may.is_in.shows.mode ∙ plain)))

  pub entered_told : Tells parts.pool (returned parts.bus h cache) (line_of state.committed)
  entered_told = told_same parts.pool parts.bus h cache _ acts.may.is_in.told (has_cache parts h state acts) read.keeps

module _ (parts : Parts) (hart : HartId) (state : ModelState) (acts : ActsOutside parts hart.number state) (swap : Swap)
    (op : AmoOp) (rd : Reg) (address source : ℕ) (is : actions.Amo op rd address source ≡ next_action parts hart.number)
    (rule : plain_rule state hart.number ≡ Begins swap) (aligned : swap.word % 4 ≡ 0) where
  abbrev h : ℕ
  h = hart.number

  hart_there : hart_of (state_began state h swap) h ≡ began_hart state.config.mode h swap (hart_of state h)
  hart_there =
      hart_of-with_hart_same state h (began_hart state.config.mode h swap (hart_of state h)) (inside parts h state acts)

  -- its section is that of the swap alone
  section_then : (hart_of (state_began state h swap) h).section ≡ Some (begun swap)
  section_then =
      ap (λ hart. hart.section) hart_there
      ∙ ap
      (λ armed. Some (record { count = suc (armed_count armed); word = swap.word; old = swap.old; new = swap.new }))
      acts.no_armed

  run_begins : KeepsRun state.committed h (begun swap)
      (release_of (put_of (present_at parts.harts h) rd.number swap.old))
      (hold_in parts.pool (own_at parts.harts h).section).entries
  run_begins =
      let action = actions.Amo op rd address source in
      subst (KeepsRun state.committed h (begun swap)
      (release_of (put_of (present_at parts.harts h) rd.number swap.old)))
      (sym (holds_none parts.pool (own_at parts.harts h).section.hold (idle parts h state acts).empty))
      (subst (λ view. KeepsRun state.committed h (begun swap) (release_of (put_of view rd.number swap.old)) [])
      (sym (view_is parts h state acts))
      (begins state.committed h swap op rd address source (runs_there parts h state acts)
      (swap_found parts h state action acts is swap rule)
      (sym (next parts h state action acts is))))

  own_began : IsOfHart parts.pool (state_began state h swap) h
      (began_own swap.word swap.old swap.new rd.number (own_at parts.harts h))
  own_began =
      let own = own_at parts.harts h in
      record {
        part =
            subst (HasOwn (began_own swap.word swap.old swap.new rd.number own)) (sym hart_there)
            (began_is state.config.mode h swap rd.number own (hart_of state h)
            (has_own parts h state acts) acts.no_armed);
        view = view_is parts h state acts;
        section =
            subst (λ section. KeepsSectionOf parts.pool (state_began state h swap) h section
            (began_own swap.word swap.old swap.new rd.number own).section)
            (sym section_then)
            (record {
              run = run_begins;
              marked =
                  nothing_marked (cache_of (state_began state h swap) h) (hold_in parts.pool own.section).entries
                  (holds_none parts.pool own.section.hold (idle parts h state acts).empty);
            });
        armed = tt;
        stands = record {
          mark = refl;
          running = runs parts h state acts;
          aligned = aligned;
          free = λ pool place low high.
              subst (λ entries. held entries place ≡ None)
              (sym (holds_none pool own.section.hold (idle parts h state acts).empty))
              (held_nothing place);
        };
        limit = (is_own parts h state acts).limit;
        owner = (is_own parts h state acts).owner;
        lent = (is_own parts h state acts).lent;
      }

  pub began_in : (bus : BusState) → Shows bus (state_began state h swap) →
      Tells parts.pool bus (line_of state.committed) → IsInState (record parts {
        bus = bus;
        harts = slice_set parts.harts h (began_own swap.word swap.old swap.new rd.number (own_at parts.harts h));
      }) (by_plain_rule state h (Begins swap)).state
  unfolding by_plain_rule
  began_in bus shows told =
      after_turn parts _ hart state (by_plain_rule state h (Begins swap)) acts.may
      (step_is parts hart state (Begins swap) acts rule)
      (stays_in_place state.committed)
      (began_stepped parts h state swap bus (began_own swap.word swap.old swap.new rd.number (own_at parts.harts h))
      acts.may shows told
      own_began)

-- the parts after both calls
pub after_began : (old mid : Parts) (bus : BusState) (hart : HartId) (state : ModelState)
    (acts : ActsOutside old hart.number state) (swap : Swap)
    (op : AmoOp) (rd : Reg) (address source : ℕ) → actions.Amo op rd address source ≡ next_action old hart.number →
    plain_rule state hart.number ≡ Begins swap → swap.word % 4 ≡ 0 → BeganIn old mid hart.number swap rd.number →
    bus.copies ≡ mid.bus.copies →
    ((from : ModelState) → Shows mid.bus from →
    Shows bus (with_hart from hart.number (open_attempt from.config.mode hart.number (hart_of from hart.number)))) →
    IsInState (record mid { bus = bus }) (by_plain_rule state hart.number (Begins swap)).state
after_began old mid bus hart state acts swap op rd address source is rule aligned began copies shows =
    let h = hart.number in
    let before = with_hart state h (entered swap (hart_of state h)) in
    let entered_now =
    entered_shows old h state (actions.Amo op rd address source) acts is swap rule began.cache began.marked in
    subst (λ p. IsInState (record p { bus = bus }) (by_plain_rule state h (Begins swap)).state) (sym began.new_is)
    (began_in old hart state acts swap op rd address source is rule aligned bus
    (subst (Shows bus) (opened_state state h swap (inside old h state acts))
    (shows before (subst (λ p. Shows p.bus before) (sym began.new_is) entered_now)))
    (told_copies old.pool (returned old.bus h began.cache) bus _ (copies ∙ ap (λ p. p.bus.copies) began.new_is)
    (entered_told old h state (actions.Amo op rd address source) acts is swap rule began.cache began.marked)))

pub ready_began : (old mid : Parts) (h : ℕ) (state : ModelState) (action : Action) (acts : ActsOutside old h state)
    (swap : Swap) (rd : ℕ) → action ≡ next_action old h → plain_rule state h ≡ Begins swap →
    BeganIn old mid h swap rd → IsReady mid.bus
ready_began old mid h state action acts swap rd is rule began =
    subst (λ p. IsReady p.bus) (sym began.new_is)
    (entered_ready old h state action acts is swap rule began.cache began.marked)
