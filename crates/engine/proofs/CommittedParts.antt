-- the parts after a hart's section has committed
use Rattle.std.proofs.Common.{◌≡◌, ◌≢◌, ◌∙◌, ℕ, ◌+◌, ◌-◌, ◌*◌, ◌/◌, ◌<◌, Bool, true}
use Rattle.std.proofs.Common.{false, if◌then◌else◌, List, drop, length, Option, Some, None, is_some, refl, ap, sym}
use Rattle.std.proofs.Common.{subst, arith}
use Rattle.std.specs.Prelude.{IfSome, IsSome, option_map, slice_set}
use Rattle.std.specs.Option.{option_map_or}
use Rattle.std.proofs.lemmas.Bool.{eq-eqb}
use Rattle.std.proofs.lemmas.Grind.{same_number_lists}
use Rattle.std.proofs.lemmas.List.{get_or-set_other, get_or-set_same, length-drop, length-set, length-take-le}
use Rattle.bus_agent.specs.Agent.{agent_of}
use Rattle.bus_order.specs.Order.{request_of}
use Rattle.residency.proofs.Laws.MarkLemmas.{has_marks-committed}
use Rattle.residency.proofs.Laws.WellFormedLemmas.{well_formed-committed}
use Rattle.residency.specs.Cache.{bit_in, committed, has_marks, letter_in, letter_of, way_of, write_bit}
use Rattle.cache_sets.specs.Cached.{Cached, Copy, bytes_of, copy_in}
use Rattle.cache_sets.specs.Slotted.{Slotted, lent}
use Rattle.residency.specs.Residency.{Way}
use Rattle.residency.specs.WellFormed.{IsWellFormed}
use Rattle.coherence.proofs.Laws.GivenBackLaws.{copy_tells, kept_bytes, tells_after, writable_there}
use Rattle.coherence.proofs.Laws.Offered.{lent_at}
use Rattle.coherence.proofs.Laws.Owners.{copy_is}
use Rattle.coherence.specs.Lent.{slotted_at}
use Rattle.coherence.specs.Beginning.{LiesWhere, line_of}
use Rattle.coherence.specs.Caches.{behind_of, cache_at, copies_of}
use Rattle.coherence.specs.GivenBack.{copies_with, IsCopyBack, Stored, bytes_back}
use Rattle.coherence.specs.GivenBack as given_back_of
use Rattle.coherence.specs.Served.{Copies, HasLine, TellsOf}
use Rattle.el_base.specs.Line.{line_number}
use Rattle.el_base.specs.declared.hart_id.HartId.{HartId}
use Rattle.el_base.specs.declared.line.TheConstants.{LINE_BYTES}
use Rattle.el_base.specs.declared.outcomes.Need.TheVariants.{Write}
use Rattle.el_base.specs.declared.outcomes.Outcome.TheVariants.{Committed}
use Rattle.el_model.proofs.Laws.Harts.{hart_of-with_hart_same}
use Rattle.el_model.specs.Attempts.{close_attempt}
use Rattle.el_model.specs.Deed.{MayCommit}
use Rattle.el_model.specs.InSection.{Commits, by_section_rule, committed_hart, section_rule, section_turn, shown_in}
use Rattle.el_model.specs.State.{Hart, ModelState, Section, armed_of, cache_of, hart_of, with_hart}
use Rattle.engine.proofs.Buffers.{is_counted}
use Rattle.engine.proofs.Framed.{tells_memory, told_back, told_copies}
use Rattle.engine.proofs.LentThere.{inside_caches, lent_there, still_beside}
use Rattle.engine.proofs.InsideRules.{says}
use Rattle.engine.proofs.KeptLive.{keeps_live, next_inside, same_action}
use Rattle.engine.specs.Private.{CommitsOver, MayTakeEffect, kept_of}
use Rattle.engine.proofs.Misses.{freed_here, is_there, own_part}
use Rattle.engine.proofs.Others.{IsSeenAs, seen_same, seen_unreserved}
use Rattle.engine.proofs.RolledBack.{between, has_cache}
use Rattle.engine.proofs.Stepped.{HasStepped, IsBetween, StaysInPlace, after_step, agent_unarmed}
use Rattle.engine.proofs.Steps.{asks_nothing}
use Rattle.engine.specs.Acting.{MayAct, cache_in, freed, next_action, sets_in}
use Rattle.engine.specs.Inside.{FollowsRule}
use Rattle.engine.specs.Parts.{IsInState, IsOfHart, KeepsReserved, KeepsSectionOf, Parts, StandsAs, hold_owner, own_at}
use Rattle.engine.specs.Reached.{IsReached}
use Rattle.engine.specs.Unreserved.{AreUnreserved, line_among, unreserved_beside, unreserved_line, written_by}
use Rattle.hart_state.proofs.Laws.Harts.{committed_is}
use Rattle.hart_state.specs.Deeds.{committed_own, unreserved_own}
use Rattle.hart_state.specs.Own.{HasOwn, OwnState, new_own}
use Rattle.moesi.specs.Letters.{may_write}
use Rattle.moesi.specs.declared.letter.Letter.TheVariants.{M}
use Rattle.line_pool.specs.Pooled.{Pooled}
use Rattle.reg_mark.specs.Marks.{committed_of}
use Rattle.rv_alu.specs.Execution.{perform, view_after}
use Rattle.rv_alu.specs.Reservations.{reserved_off}
use Rattle.rv_alu.specs.declared.action.Action.{Action}
use Rattle.rv_alu.specs.declared.view.HartView.{HartView}
use Rattle.rv_flat.proofs.Laws.Shapes.{keeps_alone}
use Rattle.rv_flat.specs.FlatState.{FlatState, no_hart, view_of}
use Rattle.rv_flat.specs.Memory.{AreBytes}
use Rattle.rv_flat.specs.Run.{alone}
use Rattle.section_ctl.specs.Calls.{HasCommitted, HasReleased, committed_copy, has_written}
use Rattle.section_ctl.specs.Lent.{LeavesBeside, LendsBoth}
use Rattle.section_ctl.specs.State.{SectionState, hold_in}
use Rattle.section_laws.proofs.Laws.Coherence.{written_lines_may_be_written}
use Rattle.section_laws.specs.Coherence.{IsOwned}
use Rattle.section_view.proofs.Laws.Committing.{commits}
use Rattle.section_view.proofs.Laws.OfProgram.{committed_is as of_program}
use Rattle.section_view.proofs.Laws.Releasing.{release_actions}
use Rattle.section_view.specs.KeptRun.{HoldsMarked, is_written, section_byte, section_execution}
use Rattle.section_view.specs.Release.{HasEffect, IsLineFrom, IsReleaseAction, reserved_beside, view_unreserved_on}
use Rattle.snoop.proofs.Laws.Living.{lives_unarmed}
use Rattle.snoop.proofs.Laws.Returning.{ready_returned, shows_returned, unasked_returned}
use Rattle.snoop.specs.Asking.{HasNoRequest}
use Rattle.snoop.specs.Returned.{returned}
use Rattle.snoop.specs.Shows.{Holding, IsReady, BusState, Shows, Tells, lent_copies}
use Rattle.write_hold.specs.Held.{Entry, holds, seen_at}

-- what is committed then, and the hart
abbrev done_of : ModelState → ℕ → Section → FlatState
done_of from h section = alone from.committed h (section.count + 1)

abbrev hart_then : ModelState → ℕ → Hart
hart_then from h = committed_hart (view_of from.committed h).pc (hart_of from h)

abbrev state_then : ModelState → ℕ → Section → ModelState
state_then from h section = record (with_hart from h (hart_then from h)) { committed = done_of from h section }

by_rule : (from : ModelState) (h : ℕ) (section : Section) →
    (by_section_rule from h section Commits).state ≡ state_then from h section
unfolding by_section_rule
by_rule from h section = refl

by_outcome : (from : ModelState) (h : ℕ) (section : Section) →
    (by_section_rule from h section Commits).outcome ≡ Committed (section.count + 1)
unfolding by_section_rule
by_outcome from h section = refl

commits_turn : (from : ModelState) (h : ℕ) (section : Section) → section_rule from h section ≡ Commits →
    section_turn from h section ≡ by_section_rule from h section Commits
unfolding section_turn
commits_turn from h section is = ap (by_section_rule from h section) is

pub outcome_then : (parts : Parts) (h : ℕ) (from : ModelState) (section : Section) →
    FollowsRule parts h from section Commits → Committed (section.count + 1) ≡ (section_turn from h section).outcome
outcome_then parts h from section follows =
    sym (ap (λ turn. turn.outcome) (commits_turn from h section follows.rule_is) ∙ by_outcome from h section)

-- the action is a release
pub releases : (parts : Parts) (h : ℕ) (from : ModelState) (section : Section) (action : Action) →
    FollowsRule parts h from section Commits → action ≡ next_action parts h →
    IsReleaseAction section.word section.old action
releases parts h from section action follows is =
    subst (IsReleaseAction section.word section.old) (sym (next_inside parts h from section action follows.inside is))
    (release_actions (shown_in from h section) h section.word section.old
    (says parts h from section Commits follows).releases)

-- its section's effect
bytes_are : (from : ModelState) → IsReached from → AreBytes from.committed.bytes
bytes_are from reached =
    subst (λ s. AreBytes s.committed.bytes) (sym reached.state_is)
    ((of_program reached.program reached.config reached.events).bytes reached.bytes)

pub effect : (parts : Parts) (h : ℕ) (from : ModelState) (section : Section) (action : Action) (after : SectionState) →
    FollowsRule parts h from section Commits → action ≡ next_action parts h →
    HasReleased parts.pool (kept_of parts h) after section action →
    HasEffect from.committed (done_of from h section) h section.word after.marks.present
    (hold_in parts.pool (kept_of parts h)).entries
effect parts h from section action after follows is released =
    let kept = keeps_live parts h from section follows.inside in
    let view = (kept_of parts h).marks.present in
    let hold = (hold_in parts.pool (kept_of parts h)).entries in
    let under : ℕ → ℕ = λ a. 0 in
    let may : MayCommit from h section = says parts h from section Commits follows in
    let view_is : after.marks.present ≡ view_after (section_execution from.committed section view hold under) view =
    ap (λ marks. marks.present) (released.marks under)
    ∙ ap (λ a. view_after (perform a view (section_byte hold section.word section.new under)) view)
    (is ∙ same_action parts h from follows.inside.may) in
    subst (λ v. HasEffect from.committed (done_of from h section) h section.word v hold) (sym view_is)
    (commits from.committed h (cache_of from h) section view hold under (bytes_are from follows.inside.may.reached)
    kept.run kept.keeps may.releases)

-- a written line may be written
owned_in : (way : Option Way) → IsOwned way → bit_in Write way ≡ true → may_write (letter_in way) ≡ true
owned_in None owned bit = absurd (cc)
owned_in (Some way) owned bit = owned bit

owned : (from : ModelState) (h line : ℕ) → IsReached from → write_bit (cache_of from h) line ≡ true →
    may_write (letter_of (cache_of from h) line) ≡ true
owned from h line reached bit =
    owned_in (way_of (cache_of from h) line)
    (subst (λ s. IsOwned (way_of (cache_of s h) line)) (sym reached.state_is)
    (written_lines_may_be_written reached.program reached.config reached.events h line)) bit

-- the cache of a hart before and after, the bytes of memory before and after, and what is held
module _ (copies : Copies) (h : ℕ) (cache : Cached) (old done : FlatState) (word : ℕ) (view : HartView)
    (hold : List Entry)
    (tells : TellsOf copies (line_of old)) (lies : LiesWhere copies.first (length copies.lines) old)
    (effects : HasEffect old done h word view hold)
    (commits_in : HasCommitted (cache_at copies.caches h) cache hold)
    (marked : HoldsMarked (cache_at copies.caches h).residency hold)
    (owns : (line : ℕ) → write_bit (cache_at copies.caches h).residency line ≡ true → may_write (letter_of
    (cache_at copies.caches h).residency line) ≡ true) where
  abbrev before : Cached
  before = cache_at copies.caches h

  -- a line with the write bit is there, and may be written
  was : (line : ℕ) → write_bit before.residency line ≡ true →
      copy_in before line ≡ Some (record { letter = letter_of before.residency line; bytes = bytes_of before line })
  was line bit = copy_is before line (writable_there before line (owns line bit))

  same_copy : (copy : Option Copy) → option_map (committed_copy false) copy ≡ copy
  same_copy None = refl
  same_copy (Some copy) = refl

  unheld_back : (line : ℕ) (bit : Bool) → write_bit before.residency line ≡ bit → holds hold line ≡ false →
      IsCopyBack (copy_in before line)
      (copy_in cache line)
  unheld_back line false bit unheld =
      given_back_of.Kept (commits_in.others line unheld
      ∙ ap (λ b. option_map (committed_copy b) (copy_in before line)) bit ∙ same_copy (copy_in before line))
  unheld_back line true bit unheld =
      Stored (record { letter = letter_of before.residency line; bytes = bytes_of before line })
      (record { letter = M; bytes = bytes_of before line })
      (was line bit) (owns line bit)
      (commits_in.others line unheld ∙ ap (λ b. option_map (committed_copy b) (copy_in before line)) bit
      ∙ ap (option_map (committed_copy true)) (was line bit)) refl

  back : (line : ℕ) (held : Bool) → holds hold line ≡ held → IsCopyBack (copy_in before line) (copy_in cache line)
  back line true is =
      let bit = marked line is in
      Stored (record { letter = letter_of before.residency line; bytes = bytes_of before line })
      (record { letter = M; bytes = bytes_of cache line })
      (was line bit) (owns line bit) (commits_in.held line is) refl
  back line false is = unheld_back line (write_bit before.residency line) refl is

  -- a line of memory
  from_there : (line : ℕ) → HasLine copies line → IsLineFrom old line
  from_there line there = record { aligned = omega (arith, lies.first); from = omega (arith, lies.first, there.from) }

  whole : (line : ℕ) → HasLine copies line → length (line_of done line) ≡ 64
  whole line there =
      length-take-le 64 (drop ((line - done.base / LINE_BYTES) * 64) done.bytes)
      (let left = length-drop ((line - done.base / LINE_BYTES) * 64) done.bytes in
      omega (arith, left, lies.first, lies.lines, effects.base, effects.size, there.from, there.below))

  held_line : (line : ℕ) → HasLine copies line → holds hold line ≡ true → line_of done line ≡ bytes_of cache line
  held_line line there is =
      let full = whole line there in
      same_number_lists (line_of done line) (bytes_of cache line) (full ∙ sym (commits_in.size line is))
      (λ place inside.
      let less : place < LINE_BYTES = omega (arith, inside, full) in
      effects.lines line place (from_there line there) less
      ∙ sym (commits_in.bytes line place is less
      ∙ ap (λ bytes. seen_at hold line bytes place)
      (copy_tells copies h line (line_of old) tells (writable_there before line (owns line (marked line is))))))

  same_bytes : (bit : Bool) (copy : Option Copy) (bytes : List ℕ) →
      option_map_or (λ c. c.bytes) (option_map (committed_copy bit) copy) bytes
      ≡ option_map_or (λ c. c.bytes) copy bytes
  same_bytes bit None bytes = refl
  same_bytes bit (Some copy) bytes = refl

  exact : (line : ℕ) (held : Bool) → HasLine copies line → holds hold line ≡ held →
      line_of done line ≡ bytes_back (line_of old) cache line
  exact line true there is =
      held_line line there is
      ∙ sym (ap (λ copy. option_map_or (λ c. c.bytes) copy (line_of old line)) (commits_in.held line is))
  exact line false there is =
      effects.same line (from_there line there) is
      ∙ sym (ap (λ copy. option_map_or (λ c. c.bytes) copy (line_of old line)) (commits_in.others line is)
      ∙ same_bytes (write_bit before.residency line) (copy_in before line) (line_of old line)
      ∙ kept_bytes (line_of old line) (copies_of copies.caches line) (behind_of copies.first copies.lines line) h
      (copy_in before line)
      (tells.each line there) refl)

  tells_then : TellsOf (copies_with copies h cache) (line_of done)
  tells_then = tells_after copies h cache (line_of old) (line_of done) tells
      (record {
        given_back = record { each = λ line. back line (holds hold line) refl };
        exact = λ line there. exact line (holds hold line) there refl;
      })

-- the bus
agent_then : (from : ModelState) (h : ℕ) → armed_of from h ≡ None →
    agent_of (hart_then from h) ≡ agent_of (close_attempt (record (hart_of from h) { held_line = None }))
agent_then from h none = agent_unarmed (close_attempt (record (hart_of from h) { held_line = None })) none

-- a hart that loses its reservation where it is of a word on one of these lines
seen_by : (lines : ℕ → Bool) (reserved : Option ℕ) (own : OwnState) →
    (committed_of own.section.marks).reserved ≡ reserved →
    IsSeenAs own (unreserved_line (line_among lines reserved) own)
    (view_unreserved_on lines (committed_of own.section.marks))
seen_by lines None own is =
    let view = committed_of own.section.marks in
    seen_same own (view_unreserved_on lines view)
    (ap (λ r. record view { reserved = r }) (is ∙ sym (ap (reserved_beside lines) is)))
seen_by lines (Some word) own is = by (lines (line_number word)) refl
  where
    view : HartView
    view = committed_of own.section.marks

    by : (among : Bool) → lines (line_number word) ≡ among →
        IsSeenAs own (unreserved_line (if among then Some (line_number word) else None) own)
        (view_unreserved_on lines view)
    by true here =
        subst (IsSeenAs own (unreserved_own (line_number word) own))
        (ap (λ r. record view { reserved = r })
        (ap (reserved_off (line_number word)) is
        ∙ ap (λ test. if test then None else Some word) (eq-eqb (line_number word) (line_number word) refl)
        ∙ sym (ap (reserved_beside lines) is ∙ ap (λ test. if test then None else Some word) here)))
        (seen_unreserved (line_number word) own)
    by false here =
        seen_same own (view_unreserved_on lines view)
        (ap (λ r. record view { reserved = r })
        (is ∙ sym (ap (reserved_beside lines) is ∙ ap (λ test. if test then None else Some word) here)))

seen_beside : (lines : ℕ → Bool) (own : OwnState) →
    IsSeenAs own (unreserved_beside lines own) (view_unreserved_on lines (committed_of own.section.marks))
seen_beside lines own = seen_by lines (committed_of own.section.marks).reserved own refl

-- the hart's cache as its section commits, and what the bus shows then
pub record CommitsAt (parts : Parts) (bus : BusState) (h : ℕ) (from : ModelState) (section : Section) (action : Action)
    (after : SectionState)
    (pool : Pooled) (cache : Slotted) : Type 0 where
  pub follows : FollowsRule parts h from section Commits
  pub next : action ≡ next_action parts h
  pub closed : Shows bus (with_hart (freed from h) h (close_attempt (hart_of (freed from h) h)))
  pub copies : bus.copies ≡ parts.bus.copies
  pub over : CommitsOver parts.pool pool (sets_in parts h) cache (kept_of parts h) after action

module _ (parts : Parts) (bus : BusState) (h : ℕ) (from : ModelState) (section : Section) (action : Action)
    (after : SectionState) (pool : Pooled)
    (cache : Slotted) (at : CommitsAt parts bus h from section action after pool cache) where
  abbrev may : MayAct parts h from
  may = at.follows.inside.may

  released : HasReleased parts.pool (kept_of parts h) after section action
  released =
      subst (λ live. IfSome live (λ s. HasReleased parts.pool (kept_of parts h) after s action))
      (keeps_live parts h from section at.follows.inside).live at.over.released

  effects : HasEffect from.committed (done_of from h section) h section.word after.marks.present
      (hold_in parts.pool (kept_of parts h)).entries
  effects = effect parts h from section action after at.follows at.next released

  abbrev mid : ModelState
  mid = with_hart (freed from h) h (close_attempt (hart_of (freed from h) h))

  stands_between : IsBetween bus from mid h (close_attempt (record (hart_of from h) { held_line = None }))
  stands_between = between parts bus h from may at.closed

  inside : h < length bus.copies.caches
  inside = has_cache parts bus h from may at.closed

  residency : (slotted_at bus.copies.caches h).residency ≡ cache_of from h
  residency = stands_between.shows.caches h ∙ ap (λ hart. hart.cache) stands_between.here

  unarmed_there : armed_of from h ≡ None
  unarmed_there = (keeps_live parts h from section at.follows.inside).unarmed_there

  abbrev all : Copies
  all = lent_copies parts.pool parts.bus.copies

  here : cache_at all.caches h ≡ cache_in parts h
  here = lent_at parts.pool parts.bus.copies.caches h

  there : (cache_at all.caches h).residency ≡ cache_of from h
  there = ap (λ (c : Cached). c.residency) here ∙ (keeps_live parts h from section at.follows.inside).cache

  tells_now : TellsOf (copies_with all h (lent pool cache)) (line_of (done_of from h section))
  tells_now =
      tells_then all h (lent pool cache) from.committed (done_of from h section) section.word after.marks.present
      (hold_in parts.pool (kept_of parts h)).entries may.is_in.told.told
      (tells_memory parts (freed from h) may.is_in).placed effects
      (subst (λ c. HasCommitted c (lent pool cache) (hold_in parts.pool (kept_of parts h)).entries) (sym here)
      at.over.committed)
      (subst (λ c. HoldsMarked c (hold_in parts.pool (kept_of parts h)).entries) (sym there)
      (keeps_live parts h from section at.follows.inside).marked)
      (λ line bit.
      subst (λ c. may_write (letter_of c line) ≡ true) (sym there)
      (owned from h line may.reached (subst (λ c. write_bit c line ≡ true) there bit)))

  beside : LeavesBeside h (hold_owner h) parts.pool pool
  beside = still_beside parts h from pool cache after.hold may at.over.still

  told_then : Tells pool (returned bus h cache) (line_of (done_of from h section))
  told_then =
      told_copies pool (returned parts.bus h cache) (returned bus h cache) _
      (ap (λ (c : Holding). record c { caches = slice_set c.caches h cache }) at.copies)
      (told_back parts.pool pool parts.bus h cache _ _ may.is_in.told (inside_caches parts h from may)
      at.over.still.cache_owner
      at.over.still.both.cache_lent beside tells_now)

  same_sets : slotted_at bus.copies.caches h ≡ sets_in parts h
  same_sets = ap (λ (c : Holding). slotted_at c.caches h) at.copies

  pub shows_then : Shows (returned bus h cache) (state_then from h section)
  shows_then =
      subst (λ s. Shows (returned bus h cache) (record s { committed = done_of from h section }))
      (stands_between.becomes (hart_then from h))
      (shows_returned bus mid h cache (hart_then from h) (done_of from h section) inside stands_between.shows
      (record {
        agent = agent_then from h unarmed_there ∙ ap agent_of (sym stands_between.here);
        ways = at.over.committed.ways ∙ sym (ap (λ (c : Slotted). c.ways) same_sets);
        residency = ap (λ c. committed c) (sym (keeps_live parts h from section at.follows.inside).cache)
            ∙ sym at.over.committed.residency;
        live =
            sym (lives_unarmed cache.residency 0 refl ∙ ap has_marks at.over.committed.residency
            ∙ has_marks-committed (sets_in parts h).residency);
        armed = sym (ap (λ hart. is_some hart.armed) stands_between.here ∙ ap is_some unarmed_there);
        memory = record {
          first = stands_between.shows.memory.first ∙ sym effects.base;
          lines = stands_between.shows.memory.lines ∙ sym effects.size;
        };
      }))

  -- the bus is ready again
  waits_not : HasNoRequest parts.bus h
  waits_not = asks_nothing parts from h may

  free_then : HasNoRequest bus h
  free_then = record {
    none_raised =
        ap (λ agent. agent.raised) (stands_between.shows.agents h) ∙ ap (λ hart. hart.raised) stands_between.here
        ∙ sym (ap (λ agent. agent.raised) (may.is_in.shows.agents h)
        ∙ ap (λ hart. hart.raised) (freed_here from h (is_there parts from h may)))
        ∙ waits_not.none_raised;
    none_ordered =
        ap (λ order. request_of order h) (stands_between.shows.order ∙ sym may.is_in.shows.order)
        ∙ waits_not.none_ordered;
  }

  pub ready_then : IsReady bus → IsReady (returned bus h cache)
  ready_then ready =
      ready_returned bus h cache inside ready
      (unasked_returned bus h cache free_then
      (subst (λ ways. IsWellFormed ways cache.residency) (sym at.over.committed.ways)
      (subst (IsWellFormed (sets_in parts h).ways) (sym at.over.committed.residency)
      (well_formed-committed (sets_in parts h).ways (sets_in parts h).residency
      (may.ready.well_formed h (inside_caches parts h from may)))))
      (λ plain. ap has_marks at.over.committed.residency ∙ has_marks-committed (sets_in parts h).residency))

  -- what the hart keeps then
  own_then : IsOfHart pool (state_then from h section) h (committed_own after (own_at parts.harts h))
  own_then =
      let own = own_at parts.harts h in
      let was = may.is_in.harts h may.exists in
      let below = is_there parts from h may in
      let here = hart_of-with_hart_same from h (hart_then from h) below in
      let part = own_part parts from h may in
      let under : ℕ → ℕ = λ a. 0 in
      record {
        part = subst (HasOwn (committed_own after own)) (sym here)
            (subst (λ pc. HasOwn (committed_own after own) (committed_hart pc (hart_of from h)))
            (ap (λ view. view.pc) was.view)
            (committed_is after own (hart_of from h) part released.live released.armed));
        view = ap committed_of (released.marks under) ∙ sym (ap (λ marks. marks.present) (released.marks under))
            ∙ sym effects.own;
        section =
            subst (λ live. KeepsSectionOf pool (state_then from h section) h live after)
            (sym (ap (λ hart. hart.section) here)) tt;
        armed =
            subst (λ armed. KeepsReserved (done_of from h section) h armed after.marks.present) (sym released.armed) tt;
        stands = subst (λ l. StandsAs after.marks after.hold l after.armed) (sym released.live)
            (subst (StandsAs after.marks after.hold None) (sym released.armed)
            (record {
              unmarked = ap (λ marks. marks.mark) (released.marks under);
              empty = ap (λ hold. hold.entries) released.hold;
            }));
        limit = ap (λ hold. hold.limit) released.hold ∙ was.limit;
        owner = at.over.still.hold_owner ∙ was.owner;
        lent = at.over.still.both.hold_lent;
      }

  -- and the others
  others_then : (g : ℕ) (own : OwnState) → g ≢ h → g < length parts.harts →
      own ≡ unreserved_beside (is_written section.word (hold_in parts.pool (kept_of parts h)).entries)
      (own_at parts.harts g) → IsSeenAs (own_at parts.harts g) own (view_of (done_of from h section) g)
  others_then g own other exists is =
      let lines = is_written section.word (hold_in parts.pool (kept_of parts h)).entries in
      subst (λ o. IsSeenAs (own_at parts.harts g) o (view_of (done_of from h section) g)) (sym is)
      (subst (IsSeenAs (own_at parts.harts g) (unreserved_beside lines (own_at parts.harts g)))
      (sym (effects.others g other))
      (subst (λ view. IsSeenAs (own_at parts.harts g) (unreserved_beside lines (own_at parts.harts g))
      (view_unreserved_on lines view))
      (may.is_in.harts g exists).view
      (seen_beside lines (own_at parts.harts g))))

  -- so the parts are in the state after it
  pub stepped : (unreserved : List OwnState) (own : OwnState) →
      AreUnreserved h (written_by parts.pool (own_at parts.harts h)) parts.harts unreserved →
      own ≡ committed_own after (own_at parts.harts h) →
      HasStepped parts (record parts { pool = pool; bus = returned bus h cache; harts = slice_set unreserved h own }) h
      (state_then from h section)
  stepped unreserved own lost is =
      let none = new_own no_hart 0 0 in
      let live = (keeps_live parts h from section at.follows.inside).live in
      record {
        config = refl;
        span = refl;
        code = refl;
        output = refl;
        shows = shows_then;
        told = told_then;
        beside = beside;
        each = length-set unreserved h own ∙ lost.count;
        own = subst (IsOfHart pool (state_then from h section) h)
            (sym (get_or-set_same unreserved h own none (subst (λ n. h < n) (sym lost.count) may.exists) ∙ is))
            own_then;
        others = λ g other exists. subst (λ o. IsSeenAs (own_at parts.harts g) o (view_of (done_of from h section) g))
            (sym (get_or-set_other unreserved h g own none other))
            (others_then g (own_at unreserved g) other exists
            (lost.others g other exists
            ∙ ap (λ l. unreserved_beside (λ line. has_written l (hold_in parts.pool (kept_of parts h)).entries line)
            (own_at parts.harts g)) live));
      }

  pub stays : StaysInPlace from.committed (done_of from h section)
  stays = record { shape = keeps_alone from.committed h (section.count + 1); output = effects.output }

pub commits_in : (parts : Parts) (bus : BusState) (hart : HartId) (from : ModelState) (section : Section)
    (action : Action) (after : SectionState)
    (pool : Pooled) (cache : Slotted) (unreserved : List OwnState) (own : OwnState) →
    CommitsAt parts bus hart.number from section action after pool cache →
    AreUnreserved hart.number (written_by parts.pool (own_at parts.harts hart.number)) parts.harts unreserved →
    own ≡ committed_own after (own_at parts.harts hart.number) →
    IsInState (record parts {
      pool = pool;
      bus = returned bus hart.number cache;
      harts = slice_set unreserved hart.number own;
    })
    (section_turn from hart.number section).state
commits_in parts bus hart from section action after pool cache unreserved own at lost is =
    let h = hart.number in
    let new = record parts { pool = pool; bus = returned bus h cache; harts = slice_set unreserved h own } in
    let turn = ap (λ t. t.state) (commits_turn from h section at.follows.rule_is) ∙ by_rule from h section in
    after_step parts new hart from section at.follows.inside
    (subst (λ s. StaysInPlace from.committed s.committed) (sym turn)
    (stays parts bus h from section action after pool cache at))
    (subst (HasStepped parts new h) (sym turn)
    (stepped parts bus h from section action after pool cache at unreserved own lost is))

-- what is owed before the section commits, in parts of which the bus and the other harts have changed, and no copy
pub record IsBeforeCommit (parts mid : Parts) (h : ℕ) : Type 0 where
  pub pool : mid.pool ≡ parts.pool
  pub copies : mid.bus.copies ≡ parts.bus.copies
  pub count : length mid.harts ≡ length parts.harts
  pub own : own_at mid.harts h ≡ own_at parts.harts h

-- what holds of a pool, a cache and what a hart keeps, holds of them in such parts
of_those : (parts mid : Parts) (h : ℕ) → IsBeforeCommit parts mid h → (P : Pooled → Slotted → OwnState → Type 0) →
    P parts.pool (sets_in parts h) (own_at parts.harts h) → P mid.pool (sets_in mid h) (own_at mid.harts h)
of_those parts mid h before P holds =
    subst (λ own. P mid.pool (sets_in mid h) own) (sym before.own)
    (subst (λ (copies : Holding). P mid.pool (slotted_at copies.caches h) (own_at parts.harts h)) (sym before.copies)
    (subst (λ pool. P pool (sets_in parts h) (own_at parts.harts h)) (sym before.pool) holds))

pub may_take_effect : (parts mid : Parts) (h : ℕ) (from : ModelState) (section : Section) (action : Action) →
    FollowsRule parts h from section Commits → action ≡ next_action parts h → IsBeforeCommit parts mid h →
    MayTakeEffect mid h action
may_take_effect parts mid h from section action follows next before =
    let may = follows.inside.may in
    let kept = keeps_live parts h from section follows.inside in
    let lends = lent_there parts h from may in
    record {
      there = record {
        hart_exists = subst (λ n. h < n) (sym before.count) lends.hart_exists;
        cache_exists = subst (λ (copies : Holding). h < length copies.caches) (sym before.copies) lends.cache_exists;
        both = of_those parts mid h before (λ pool sets own. LendsBoth pool sets own.section.hold) lends.both;
      };
      live = of_those parts mid h before (λ pool sets own. IsSome own.section.live) (subst IsSome (sym kept.live) refl);
      release =
          of_those parts mid h before
          (λ pool sets own. IfSome own.section.live (λ s. IsReleaseAction s.word s.old action))
          (subst (λ live. IfSome live (λ s. IsReleaseAction s.word s.old action)) (sym kept.live)
          (releases parts h from section action follows next));
      marked =
          of_those parts mid h before (λ pool sets own. HoldsMarked sets.residency (hold_in pool own.section).entries)
          (subst (λ c. HoldsMarked c (hold_in parts.pool (kept_of parts h)).entries) (sym kept.cache) kept.marked);
    }

pub commits_over : (parts mid : Parts) (h : ℕ) (pool : Pooled) (cache : Slotted) (after : SectionState)
    (action : Action) → IsBeforeCommit parts mid h → CommitsOver mid.pool pool (sets_in mid h) cache (kept_of mid h)
    after action → CommitsOver parts.pool pool (sets_in parts h) cache (kept_of parts h) after action
commits_over parts mid h pool cache after action before over =
    of_those mid parts h
    (record { pool = sym before.pool; copies = sym before.copies; count = sym before.count; own = sym before.own })
    (λ p sets own. CommitsOver p pool sets cache own.section after action) over

-- it has a live section, and one more instruction can be counted
pub is_live_there : (parts : Parts) (h : ℕ) (from : ModelState) (section : Section) →
    FollowsRule parts h from section Commits → IsSome (own_at parts.harts h).section.live
is_live_there parts h from section follows =
    subst IsSome (sym (keeps_live parts h from section follows.inside).live) refl

pub can_count : (parts : Parts) (h : ℕ) (from : ModelState) (section : Section) →
    FollowsRule parts h from section Commits →
    IfSome (own_at parts.harts h).section.live (λ s. s.count + 1 < 4294967296)
can_count parts h from section follows =
    subst (λ live. IfSome live (λ s. s.count + 1 < 4294967296))
    (sym (keeps_live parts h from section follows.inside).live) (is_counted parts h from section follows.inside)

pub counted : (parts : Parts) (h count : ℕ) (from : ModelState) (section : Section) →
    FollowsRule parts h from section Commits → IfSome (own_at parts.harts h).section.live (λ s. count ≡ s.count + 1) →
    Committed count ≡ (section_turn from h section).outcome
counted parts h count from section follows is =
    ap Committed
    (subst (λ live. IfSome live (λ s. count ≡ s.count + 1)) (keeps_live parts h from section follows.inside).live is)
    ∙ outcome_then parts h from section follows
