-- the parts after an event of the bus
use Rattle.std.proofs.Common.{◌≡◌, ◌≢◌, ◌∙◌, ℕ, zero, suc, ◌≤◌, ◌<◌, false, List, Option, Some, None, is_some}
use Rattle.std.proofs.Common.{length, refl, ap, sym, subst, arith}
use Rattle.std.specs.Prelude.{◌==◌, IsSome, if◌then◌else◌, option_map, slice_index}
use Rattle.std.proofs.lemmas.Bool.Decides.{nat_tests}
use Rattle.el_base.specs.LetGo.{freed_of_outcome}
use Rattle.residency.specs.Residency.{Way}
use Rattle.el_base.specs.Freed.{count_in}
use Rattle.el_base.specs.declared.events.Event.{Event}
use Rattle.el_base.specs.declared.events.Kind.TheVariants as kinds
use Rattle.el_base.specs.declared.freed.Freed.{Freed}
use Rattle.el_model.proofs.Laws.Restoring.{losers_restored}
use Rattle.el_base.specs.Winners.{winner_over}
use Rattle.el_model.specs.Losses.{restored, standing_of}
use Rattle.el_model.specs.Next.{kind_turn, next}
use Rattle.el_model.specs.Order.{order_turn}
use Rattle.el_model.specs.Serve.{serve_turn}
use Rattle.el_model.specs.State.{ModelState, Section, Turn, armed_of, cache_of, hart_of, section_of}
use Rattle.coherence.proofs.Laws.Offered.{leaves_owner-then}
use Rattle.coherence.specs.Beginning.{line_of}
use Rattle.coherence.specs.Lent.{LeavesHolds, LeavesOwner}
use Rattle.engine.proofs.Framed.{hold_lent, own_left, told_left}
use Rattle.engine.proofs.Reaching.{lets_go, loses, numbered, runs_armed, survives_event}
use Rattle.engine.proofs.Reserved.{kept_as, unarmed, unlive}
use Rattle.engine.specs.Parts.{IsInState, IsOfHart, KeepsReserved, KeepsSection, KeepsSectionOf, Parts, StandsAs}
use Rattle.engine.specs.Parts.{hold_owner, own_at}
use Rattle.engine.specs.Lent.{LeavesKept, LendsHolds}
use Rattle.engine.specs.Reached.{IsReached, EngineStands}
use Rattle.engine.specs.Restored.{AreRestored, freed_own, own_after}
use Rattle.hart_state.proofs.Laws.Harts.{lost_is}
use Rattle.hart_state.specs.Deeds.{let_go_own, lost_own}
use Rattle.hart_state.specs.Own.{OwnState}
use Rattle.line_pool.specs.Pooled.{Pooled}
use Rattle.policy.specs.Winners.{wins_of}
use Rattle.run_laws.specs.PrivateRun.{IsChangeBeside, KeepsAllButViews}
use Rattle.rv_alu.specs.declared.view.HartView.{HartView}
use Rattle.rv_flat.proofs.Laws.Shapes.{span_kept}
use Rattle.rv_flat.specs.FlatState.{FlatState, view_of}
use Rattle.rv_flat.specs.Run.{alone}
use Rattle.section_ctl.specs.State.{Reserved, SectionState, hold_in}
use Rattle.section_view.proofs.Laws.Surviving.{kept_armed_survive, kept_survive, marks_stay}
use Rattle.section_view.specs.KeptRun.{KeepsArmed}
use Rattle.snoop.specs.LettingGo.{KeepsBytes}
use Rattle.snoop.specs.Shows.{BusState, Shows, Tells}
use Rattle.stamp.specs.Stamps as stamps
use Rattle.step_laws.proofs.Laws.Frames.{bus_events_keep}
use Rattle.step_laws.specs.Frames.{LeavesPredictors}
use Rattle.step_laws.specs.LettingGo.{LetsHartsGo}
use Rattle.step_laws.specs.Survivors.{Survives}
use Rattle.write_hold.specs.Slotted.{IsLent}

-- an event that is no step leaves the bytes of memory
pub bytes_kept : (state : ModelState) (event : Event) → IsReached state → event.kind ≢ kinds.Step →
    KeepsBytes state.committed (next state event).state.committed
bytes_kept state event reached bus =
    let memory = (lets_go state event reached bus).memory in
    record { base = memory.shape.base; bytes = memory.bytes }

-- so the bus, which owes that to its caller, shows the state after it
pub shown_after : (bus : BusState) (state : ModelState) (event : Event) (turn : Turn) → next state event ≡ turn →
    IsReached state → event.kind ≢ kinds.Step →
    (KeepsBytes state.committed turn.state.committed → Shows bus turn.state) → Shows bus (next state event).state
shown_after bus state event turn is reached no_step shows =
    subst (λ t. Shows bus t.state) (sym is)
    (shows (subst (λ t. KeepsBytes state.committed t.state.committed) is (bytes_kept state event reached no_step)))

pub order_is : (state : ModelState) (event : Event) → event.kind ≡ kinds.Order →
    next state event ≡ order_turn state event.hart.number
unfolding next
order_is state event is = ap (kind_turn state event.hart.number) is

pub serve_is : (state : ModelState) (event : Event) → event.kind ≡ kinds.Serve →
    next state event ≡ serve_turn state event.hart.number
unfolding next
serve_is state event is = ap (kind_turn state event.hart.number) is

-- a section that survives is still kept
pub kept_survives : (pool : Pooled) (state new : ModelState) (g : ℕ) (section : Section) (kept : SectionState) →
    Survives state new g section → KeepsSection pool state g section kept → KeepsSection pool new g section kept
kept_survives pool state new g section kept survives keeps = record {
  run =
      kept_survive g (cache_of state g) section state.committed new.committed kept.marks.present
      (hold_in pool kept).entries survives.covered
      survives.change keeps.marked keeps.run;
  marked =
      marks_stay (cache_of state g) (cache_of new g) (hold_in pool kept).entries
      survives.keeps.bits.written keeps.marked;
}

-- where memory and a hart's view stay, what is committed has changed beside the hart alone
beside : (old new : FlatState) (g : ℕ) (cache : List (List Way)) → KeepsAllButViews old new →
    view_of new g ≡ view_of old g → IsChangeBeside g cache old new
beside old new g cache keeps view = record {
  base = keeps.shape.base;
  code = keeps.shape.code;
  size = keeps.shape.length_of_bytes;
  harts = keeps.shape.harts;
  view = view ∙ ap (λ reserved. record (view_of old g) { reserved = reserved }) (sym (ap (λ v. v.reserved) view));
  bytes = λ place bit. ap (λ bytes. slice_index bytes place) keeps.bytes;
}

-- what is kept of an armed section that goes on
armed_goes_on : (state new : ModelState) (g : ℕ) (kept : Option Reserved) (present : HartView) → IsReached state →
    option_map (λ reserved. reserved.armed) kept ≡ armed_of state g →
    IsChangeBeside g (cache_of state g) state.committed new.committed → KeepsReserved state.committed g kept present →
    KeepsReserved new.committed g kept present
armed_goes_on state new g None present reached is change keeps = tt
armed_goes_on state new g (Some reserved) present reached is change keeps =
    kept_armed_survive g (cache_of state g) reserved.armed state.committed new.committed reserved.old present
    (runs_armed state g reserved.armed reached (sym is)) change keeps

module _ (pool : Pooled) (state : ModelState) (event : Event) (g : ℕ) (own : OwnState) (reached : IsReached state)
    (bus : event.kind ≢ kinds.Step)
    (below : g < length state.harts) (is : IsOfHart pool state g own) where
  abbrev new : ModelState
  new = (next state event).state

  abbrev freed : Freed
  freed = freed_of_outcome (next state event).outcome

  keeps : LeavesPredictors state event.hart.number (next state event)
  keeps = bus_events_keep state event bus

  goes : LetsHartsGo state new freed
  goes = lets_go state event reached bus

  stands_as : (winner : Option ℕ) → winner_over (next state event).outcome g ≡ winner →
      standing_of (hart_of new g) ≡ restored state.config.mode winner (standing_of (hart_of state g))
  stands_as winner named =
      losers_restored state event g (numbered state reached) bus below
      ∙ ap (λ w. restored state.config.mode w (standing_of (hart_of state g))) named

  limit_is : own.section.hold.limit ≡ new.config.lines
  limit_is = is.limit ∙ ap (λ config. config.lines) (sym keeps.config)

  -- a section that the hart has not lost goes on, if it has one
  goes_on : (live : Option Section) → section_of state g ≡ live → section_of new g ≡ live →
      KeepsSectionOf pool state g live own.section → KeepsSectionOf pool new g live own.section
  goes_on None was now kept = tt
  goes_on (Some section) was now kept =
      kept_survives pool state new g section own.section
      (survives_event state event g section reached (λ step. absurd (bus step)) was (ap is_some now)) kept

  -- a hart that nothing ends for
  stays : winner_over (next state event).outcome g ≡ None → count_in freed g ≡ 0 → IsOfHart pool new g own
  stays named none =
      let standing = stands_as None named in
      let same = ap (λ s. s.section) standing in
      record {
        part = record {
          section = is.part.section ∙ sym same;
          armed = is.part.armed ∙ sym (goes.stays_armed g none);
          last_lr = is.part.last_lr ∙ sym (goes.stays_last g none);
          predictor = is.part.predictor ∙ sym (keeps.predictors g);
          fallback = is.part.fallback ∙ sym (ap (λ s. s.fallback) standing);
          tries = is.part.tries ∙ sym (ap (λ s. s.tries) standing);
        };
        view = is.view ∙ sym (goes.stays_view g none);
        section =
            subst (λ live. KeepsSectionOf pool new g live own.section) (sym same)
            (goes_on (section_of state g) refl same is.section);
        armed =
            armed_goes_on state new g own.section.armed own.section.marks.present reached is.part.armed
            (beside state.committed new.committed g (cache_of state g) goes.memory (goes.stays_view g none)) is.armed;
        stands = is.stands;
        limit = limit_is;
        owner = is.owner;
        lent = is.lent;
      }

  -- one that is let go
  is_let_go : winner_over (next state event).outcome g ≡ None → 1 ≤ count_in freed g →
      IsOfHart pool new g (let_go_own own)
  is_let_go named some =
      let gone = goes.lets_go g some in
      let standing = stands_as None named in
      let kept = kept_as own.section.armed gone.armed (is.part.armed ∙ gone.was) in
      let reserved : Reserved = record { armed = gone.armed; old = kept.old } in
      let stood : StandsAs own.section.marks own.section.hold own.section.live (Some reserved) =
      subst (λ armed. StandsAs own.section.marks own.section.hold own.section.live armed) kept.is is.stands in
      let none = unlive own.section.live reserved own.section.marks own.section.hold stood in
      let keeps_it : KeepsArmed state.committed g gone.armed kept.old own.section.marks.present =
      subst (λ armed. KeepsReserved state.committed g armed own.section.marks.present) kept.is is.armed in
      let same = ap (λ s. s.section) standing in
      record {
        part = record {
          section = sym none ∙ is.part.section ∙ sym same;
          armed = sym gone.over;
          last_lr = ap (λ view. Some view.pc) is.view ∙ sym gone.last;
          predictor = is.part.predictor ∙ sym (keeps.predictors g);
          fallback = is.part.fallback ∙ sym (ap (λ s. s.fallback) standing);
          tries = is.part.tries ∙ sym (ap (λ s. s.tries) standing);
        };
        view = keeps_it.view ∙ ap (λ n. view_of (alone state.committed g n) g) gone.count_is ∙ sym gone.view;
        section =
            subst (λ live. KeepsSectionOf pool new g live (let_go_own own).section)
            (sym (same ∙ sym is.part.section ∙ none)) tt;
        armed = tt;
        stands = record {
          unmarked = refl;
          empty = (subst (λ live. StandsAs own.section.marks own.section.hold live (Some reserved)) none stood).empty;
        };
        limit = limit_is;
        owner = is.owner;
        lent = is.lent;
      }

  -- a loser had a live section, so it was not armed, and none of its instructions takes effect
  not_armed : (section : Section) → section_of state g ≡ Some section → armed_of state g ≡ None
  not_armed section live =
      sym is.part.armed
      ∙ ap (option_map (λ reserved. reserved.armed))
      (unarmed section own.section.armed own.section.marks own.section.hold
      (subst (λ l. StandsAs own.section.marks own.section.hold l own.section.armed) (is.part.section ∙ live) is.stands))

  none_freed : (section : Section) → section_of state g ≡ Some section → count_in freed g ≡ 0
  none_freed section live = by (count_in freed g) refl
    where
      by : (n : ℕ) → count_in freed g ≡ n → count_in freed g ≡ 0
      by zero none = none
      by (suc n) some =
          let gone = goes.lets_go g (omega (arith, some)) in
          let wrong = sym (not_armed section live) ∙ gone.was in
          absurd (cc)

  -- one that has lost, whose stores are given up
  has_lost : (left : Pooled) (winner : ℕ) → winner_over (next state event).outcome g ≡ Some winner →
      IsLent left (lost_own state.config.mode own).section.hold → IsOfHart left new g (lost_own state.config.mode own)
  has_lost left winner named lent =
      let lost = loses state event g winner reached named in
      let none = none_freed lost.section lost.live in
      record {
        part =
            lost_is state.config.mode own (hart_of state g) (hart_of new g) is.part (stands_as (Some winner) named)
            (keeps.predictors g)
            (goes.stays_armed g none ∙ not_armed lost.section lost.live) (goes.stays_last g none);
        view = is.view ∙ sym (goes.stays_view g none);
        section =
            subst (λ live. KeepsSectionOf left new g live (lost_own state.config.mode own).section) (sym lost.over) tt;
        armed = tt;
        stands = record { unmarked = refl; empty = refl };
        limit = limit_is;
        owner = is.owner;
        lent = lent;
      }

  -- so is each hart what the event leaves to it, in a pool that has changed for those that lost alone
  pub hart_after : (left : Pooled) (winner : Option ℕ) → winner_over (next state event).outcome g ≡ winner →
      (winner ≡ None → LeavesOwner (hold_owner g) pool left) →
      IsLent left (own_after state.config.mode winner (count_in freed g) own).section.hold →
      IsOfHart left new g (own_after state.config.mode winner (count_in freed g) own)
  hart_after left (Some winner) named leaves lent = has_lost left winner named lent
  hart_after left None named leaves lent =
      own_left pool left new g (freed_own (count_in freed g) own) (leaves refl) (by (count_in freed g) refl)
    where
      by : (n : ℕ) → count_in freed g ≡ n → IsOfHart pool new g (freed_own n own)
      by zero none = stays named none
      by (suc n) some =
          let apart : (suc n == 0) ≡ false = grind (arith, nat_tests) in
          subst (λ none. IsOfHart pool new g (if none then own else let_go_own own)) (sym apart)
          (is_let_go named (omega (arith, some)))

-- all parts
pub after_bus : (old mid new : Parts) (state : ModelState) (event : Event) (winner : ℕ → Option ℕ) (freed : Freed) →
    event.kind ≢ kinds.Step → IsReached state → IsInState old state →
    mid ≡ record old { pool = mid.pool; bus = mid.bus } → new ≡ record mid { pool = new.pool; harts = new.harts } →
    Shows mid.bus (next state event).state → Tells mid.pool mid.bus (line_of (next state event).state.committed) →
    LeavesHolds old.pool mid.pool → LendsHolds new.pool new.harts → LeavesKept winner mid.pool new.pool →
    ((g : ℕ) → winner_over (next state event).outcome g ≡ winner g) →
    freed ≡ freed_of_outcome (next state event).outcome → AreRestored mid.config.mode winner (λ g. count_in freed g)
    mid.harts new.harts → IsInState new (next state event).state
after_bus old mid new state event winner freed bus reached is mid_is new_is shows told holds lent kept named
    freed_is restored_mid =
    let restored =
    subst (λ p. AreRestored p.config.mode winner (λ g. count_in freed g) p.harts new.harts) mid_is restored_mid in
    let keeps = bus_events_keep state event bus in
    let memory = (lets_go state event reached bus).memory in
    let config : new.config ≡ old.config = ap (λ p. p.config) new_is ∙ ap (λ p. p.config) mid_is in
    record {
      config = config ∙ is.config ∙ sym keeps.config;
      span =
          ap (λ p. p.span) new_is ∙ ap (λ p. p.span) mid_is ∙ is.span
          ∙ sym (span_kept state.committed (next state event).state.committed memory.shape);
      shows = subst (λ b. Shows b (next state event).state) (sym (ap (λ p. p.bus) new_is)) shows;
      told =
          subst (λ b. Tells new.pool b (line_of (next state event).state.committed)) (sym (ap (λ p. p.bus) new_is))
          (told_left mid.pool new.pool mid.bus _ kept.caches told);
      one_each = restored.number ∙ is.one_each ∙ sym keeps.count;
      view_each = restored.number ∙ is.view_each ∙ sym memory.shape.harts;
      harts = λ g below.
          let inside : g < length old.harts = subst (λ n. g < n) restored.number below in
          let left =
          restored.each g inside ∙ ap (λ c. own_after c.mode (winner g) (count_in freed g) (own_at old.harts g))
          is.config
          ∙ ap (λ f. own_after state.config.mode (winner g) (count_in f g) (own_at old.harts g)) freed_is in
          subst (IsOfHart new.pool (next state event).state g) (sym left)
          (hart_after old.pool state event g (own_at old.harts g) reached bus (subst (λ n. g < n) is.one_each inside)
          (is.harts g inside) new.pool
          (winner g) (named g)
          (λ none. leaves_owner-then (hold_owner g) old.pool mid.pool new.pool (holds (hold_owner g) (omega arith))
          (kept.holds g none))
          (subst (λ (own : OwnState). IsLent new.pool own.section.hold) left (lent g below).lent));
      code = ap (λ p. p.code) new_is ∙ ap (λ p. p.code) mid_is ∙ is.code ∙ sym memory.shape.code;
      output = ap (λ p. p.output) new_is ∙ ap (λ p. p.output) mid_is ∙ is.output ∙ sym memory.output;
    }

-- a loser has a live section
pub had_section : (old mid : Parts) (stands : EngineStands old) (event : Event) (g winner : ℕ) →
    mid ≡ record old { pool = mid.pool; bus = mid.bus } → g < length mid.harts →
    winner_over (next stands.state event).outcome g ≡ Some winner → IsSome (own_at mid.harts g).section.live
had_section old mid stands event g winner mid_is inside named =
    let harts = ap (λ p. p.harts) mid_is in
    let live =
    ap (λ h. (own_at h g).section.live) harts
    ∙ (stands.is_in.harts g (subst (λ h. g < length h) harts inside)).part.section
    ∙ (loses stands.state event g winner stands.reached named).live in
    subst IsSome (sym live) refl

-- and one that is let go an armed one
pub was_armed : (old mid : Parts) (stands : EngineStands old) (event : Event) (g : ℕ) → event.kind ≢ kinds.Step →
    mid ≡ record old { pool = mid.pool; bus = mid.bus } → g < length mid.harts →
    1 ≤ count_in (freed_of_outcome (next stands.state event).outcome) g → IsSome (own_at mid.harts g).section.armed
was_armed old mid stands event g bus mid_is inside some =
    let harts = ap (λ p. p.harts) mid_is in
    let gone = (lets_go stands.state event stands.reached bus).lets_go g some in
    let kept =
    kept_as (own_at old.harts g).section.armed gone.armed
    ((stands.is_in.harts g (subst (λ h. g < length h) harts inside)).part.armed ∙ gone.was) in
    subst IsSome (sym (ap (λ h. (own_at h g).section.armed) harts ∙ kept.is)) refl

-- the pool lends the holds of all harts still
pub holds_lent : (old mid : Parts) (stands : EngineStands old) → mid ≡ record old { pool = mid.pool; bus = mid.bus } →
    LeavesHolds old.pool mid.pool → LendsHolds mid.pool mid.harts
holds_lent old mid stands mid_is leaves =
    subst (LendsHolds mid.pool) (sym (ap (λ p. p.harts) mid_is))
    (λ g inside.
    let own = stands.is_in.harts g inside in
    record {
      owner = own.owner;
      lent =
          hold_lent old.pool mid.pool (own_at old.harts g).section.hold
          (leaves (own_at old.harts g).section.hold.owner (omega (arith, own.owner))) own.lent;
    })

-- each hart has its agent at the bus
pub agent_each : (parts : Parts) → EngineStands parts → length parts.bus.agents ≡ length parts.harts
agent_each parts stands = stands.is_in.shows.agent_each ∙ sym stands.is_in.one_each

pub hart_exists : (parts : Parts) (h : ℕ) → EngineStands parts → h < length parts.harts → h < length parts.bus.agents
hart_exists parts h stands below = subst (λ n. h < n) (sym (agent_each parts stands)) below

pub few_harts : (parts : Parts) → EngineStands parts → length parts.harts ≤ 8
few_harts parts stands = subst (λ n. n ≤ 8) (agent_each parts stands) stands.ready.few

-- the policy is that of the bus's mode
pub mode_wins : (parts : Parts) (request holder : Option stamps.Stamp) → EngineStands parts →
    wins_of parts.config.mode request holder ≡ wins_of parts.bus.mode request holder
mode_wins parts request holder stands =
    ap (λ mode. wins_of mode request holder)
    (ap (λ config. config.mode) stands.is_in.config ∙ sym stands.is_in.shows.mode)
