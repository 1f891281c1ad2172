-- steps of harts, from the state that a program reaches
use Rattle.std.proofs.Common.{◌≡◌, ◌≢◌, ◌∙◌, ℕ, ◌≤◌, ◌<◌, Bool, true, false, length, Option, Some, None, is_some}
use Rattle.std.proofs.Common.{refl, ap, sym, subst}
use Rattle.std.specs.Prelude.{◌||◌, if◌then◌else◌, option_map}
use Rattle.bus_order.specs.Order.{Request, request_of}
use Rattle.el_base.specs.declared.outcomes.Outcome.{Outcome}
use Rattle.el_base.proofs.Laws.Options.{none_from_both}
use Rattle.el_model.proofs.Laws.Harts.{with_hart_kept}
use Rattle.el_model.proofs.Laws.Keeps.{keeps_with_hart}
use Rattle.el_model.specs.Next.{going_turn, stalled, status_turn, step_turn}
use Rattle.el_model.specs.State.{Armed, ModelState, Section, Turn, armed_of, has_request, hart_of, idle, ordered_of}
use Rattle.el_model.specs.State.{raised_of, section_of}
use Rattle.elf_image.specs.Limits.{end_limit}
use Rattle.engine.proofs.Misses.{same_each}
use Rattle.engine.proofs.Laws.Places.{span_small}
use Rattle.engine.proofs.Standing.{with_bus}
use Rattle.engine.specs.Acting.{ActsArmed, ActsInside, ActsOutside, MayAct, MayActSomewhere, freed}
use Rattle.engine.specs.Parts.{IsInState, Parts, committed_at, own_at}
use Rattle.engine.specs.Reached.{IsReached, EngineStands}
use Rattle.engine.specs.Turns.{TakesTurn}
use Rattle.rv_alu.specs.declared.view.HartStatus.{HartStatus}
use Rattle.rv_alu.specs.declared.view.HartStatus.TheVariants.{Exited, Running, Trapped}
use Rattle.rv_flat.specs.FlatState.{status_of}
use Rattle.snoop.specs.Asking.{Asking, HasNoRequest, Nothing, Placed, Raised, asking}
use Rattle.snoop.specs.Shows.{IsReady, BusState, Shows}

-- how a hart stands in the parts is how it stands in the state
pub status_is : (parts : Parts) (state : ModelState) (h : ℕ) → h < length parts.harts → IsInState parts state →
    status_of state.committed h ≡ (committed_at parts.harts h).status
status_is parts state h below is = ap (λ view. view.status) (sym (is.harts h below).view)

-- what leaves the parts as they are takes a turn that leaves the state as it is
pub keeps_still : (parts : Parts) (turn : ModelState → Turn) (result : Outcome) → IsReady parts.bus →
    ((state : ModelState) → IsInState parts state → turn state ≡ record { state = state; outcome = result }) →
    TakesTurn (λ state. IsReached state × IsInState parts state) turn parts parts result
keeps_still parts turn result ready same = record {
  ready = ready;
  state = λ state is. subst (λ t. IsInState parts t.state) (sym (same state is.1)) is.1;
  outcome = λ state is. ap (λ t. t.outcome) (sym (same state is.1));
  memory_stays = refl;
}

-- a hart that has stopped has nothing to do
pub stopped_turn : (state : ModelState) (h : ℕ) → status_of state.committed h ≢ Running → step_turn state h ≡ idle state
unfolding step_turn
stopped_turn state h stopped = by (status_of state.committed h) stopped
  where
    by : (status : HartStatus) → status ≢ Running → status_turn state h status ≡ idle state
    by Running other = absurd (other refl)
    by (Exited code) other = refl
    by (Trapped cause pc) other = refl

-- one that waits for a request stalls
pub stalled_turn : (state : ModelState) (h : ℕ) → status_of state.committed h ≡ Running → has_request state h ≡ true →
    step_turn state h ≡ stalled state
unfolding step_turn
stalled_turn state h running waits =
    ap (status_turn state h) running
    ∙ ap (λ test. if test then stalled state else going_turn state h (section_of state h)) waits

-- what a hart has asked tells whether it waits
abbrev pub is_asking : Asking → Bool
is_asking Nothing = false
is_asking (Raised request) = true
is_asking (Placed request) = true

pub asking_is : (raised ordered : Option Request) →
    is_asking (asking raised ordered) ≡ (is_some raised || is_some ordered)
asking_is (Some request) ordered = refl
asking_is None (Some request) = refl
asking_is None None = refl

-- one that waits for nothing goes on
pub going_on : (parts : Parts) (state : ModelState) (h : ℕ) → h < length parts.harts → IsInState parts state →
    (committed_at parts.harts h).status ≡ Running → has_request state h ≡ false →
    step_turn state h ≡ going_turn state h (section_of state h)
unfolding step_turn
going_on parts state h below is running free =
    ap (status_turn state h) (status_is parts state h below is ∙ running)
    ∙ ap (λ waits. if waits then stalled state else going_turn state h (section_of state h)) free

-- a hart that has given up what it held may act
pub may_act : (parts : Parts) (bus : BusState) (state : ModelState) (h : ℕ) → IsReached state → IsInState parts state →
    h < length parts.harts → (committed_at parts.harts h).status ≡ Running → has_request state h ≡ false → IsReady bus →
    bus.copies ≡ parts.bus.copies → Shows bus (freed state h) → MayAct (record parts { bus = bus }) h state
may_act parts bus state h reached is exists running free ready copies shows = record {
  reached = reached;
  is_in =
      with_bus parts bus state (freed state h) is
      (keeps_with_hart state h (record (hart_of state h) { held_line = None }))
      (same_each state h (record (hart_of state h) { held_line = None })
      (record {
        section = refl;
        armed = refl;
        last_lr = refl;
        cache = refl;
        predictor = refl;
        fallback = refl;
        tries = refl;
      })) copies shows;
  ready = ready;
  exists = exists;
  low = subst (λ span. span.end ≤ end_limit) (sym is.span) (span_small state reached);
  running = running;
  free = free;
}

pub may_act_somewhere : (parts : Parts) (bus : BusState) (h : ℕ) → EngineStands parts → h < length parts.harts →
    (committed_at parts.harts h).status ≡ Running →
    ((state : ModelState) → Shows parts.bus state → has_request state h ≡ false) → IsReady bus →
    bus.copies ≡ parts.bus.copies → ((state : ModelState) → Shows parts.bus state → Shows bus (freed state h)) →
    MayActSomewhere (record parts { bus = bus }) h
may_act_somewhere parts bus h stands exists running free ready copies shows = record {
  from = stands.state;
  may =
      may_act parts bus stands.state h stands.reached stands.is_in exists running
      (free stands.state stands.is_in.shows) ready copies
      (shows stands.state stands.is_in.shows);
}

-- it asks nothing of the bus
pub asks_nothing : (parts : Parts) (state : ModelState) (h : ℕ) → MayAct parts h state → HasNoRequest parts.bus h
asks_nothing parts state h may =
    let none = none_from_both (raised_of state h) (ordered_of state h) may.free in
    record {
      none_raised =
          ap (λ agent. agent.raised) (may.is_in.shows.agents h)
          ∙ with_hart_kept (λ hart. hart.raised) state h (record (hart_of state h) { held_line = None })
          refl h ∙ none.0;
      none_ordered = ap (λ order. request_of order h) may.is_in.shows.order ∙ none.1;
    }

-- the section that is kept is the state's
pub section_is : (parts : Parts) (state : ModelState) (h : ℕ) → MayAct parts h state →
    (own_at parts.harts h).section.live ≡ section_of state h
section_is parts state h may =
    (may.is_in.harts h may.exists).part.section
    ∙ with_hart_kept (λ hart. hart.section) state h (record (hart_of state h) { held_line = None }) refl h

pub armed_is : (parts : Parts) (state : ModelState) (h : ℕ) → MayAct parts h state →
    option_map (λ reserved. reserved.armed) (own_at parts.harts h).section.armed ≡ armed_of state h
armed_is parts state h may =
    (may.is_in.harts h may.exists).part.armed
    ∙ with_hart_kept (λ hart. hart.armed) state h (record (hart_of state h) { held_line = None }) refl h

pub acts_outside : (parts : Parts) (state : ModelState) (h : ℕ) → MayAct parts h state →
    (own_at parts.harts h).section.live ≡ None →
    option_map (λ reserved. reserved.armed) (own_at parts.harts h).section.armed ≡ None → ActsOutside parts h state
acts_outside parts state h may none unarmed =
    record {
      may = may;
      no_section = sym (section_is parts state h may) ∙ none;
      no_armed = sym (armed_is parts state h may) ∙ unarmed;
    }

pub acts_armed : (parts : Parts) (state : ModelState) (h : ℕ) (armed : Armed) → MayAct parts h state →
    (own_at parts.harts h).section.live ≡ None →
    option_map (λ reserved. reserved.armed) (own_at parts.harts h).section.armed ≡ Some armed →
    ActsArmed parts h state armed
acts_armed parts state h armed may none armed_here =
    record {
      may = may;
      no_section = sym (section_is parts state h may) ∙ none;
      armed_is = sym (armed_is parts state h may) ∙ armed_here;
    }

pub acts_inside : (parts : Parts) (state : ModelState) (h : ℕ) (section : Section) → MayAct parts h state →
    (own_at parts.harts h).section.live ≡ Some section → ActsInside parts h state section
acts_inside parts state h section may live = record { may = may; live = sym (section_is parts state h may) ∙ live }
