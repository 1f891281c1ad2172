-- the parts after a request was raised
use Rattle.std.proofs.Common.{◌≡◌, ◌∙◌, ℕ, ◌<◌, None, length, refl, ap, subst, arith}
use Rattle.std.proofs.lemmas.List.{set-set}
use Rattle.bus_agent.specs.Agent.{agent_at}
use Rattle.el_base.specs.declared.outcomes.Need.{Need}
use Rattle.el_model.proofs.Laws.Harts.{hart_of-with_hart_same, with_hart_kept}
use Rattle.el_model.proofs.Laws.Keeps.{keeps_with_hart}
use Rattle.el_model.specs.Plain.{missed, missed_hart}
use Rattle.el_model.specs.State.{Hart, ModelState, cache_of, hart_of, with_hart}
use Rattle.engine.proofs.Standing.{IsSameHart, with_bus}
use Rattle.engine.specs.Acting.{MayAct, cache_in, freed}
use Rattle.engine.specs.Missing.{MayMiss}
use Rattle.engine.specs.Parts.{IsInState, Parts, own_at}
use Rattle.hart_state.specs.Own.{HasOwn}
use Rattle.snoop.specs.Shows.{BusState, Shows}

-- the hart is there, in the state too
pub freed_each : (parts : Parts) (state : ModelState) (h : ℕ) → MayAct parts h state →
    length parts.harts ≡ length state.harts
freed_each parts state h may =
    may.is_in.one_each ∙ (keeps_with_hart state h (record (hart_of state h) { held_line = None })).count

pub is_there : (parts : Parts) (state : ModelState) (h : ℕ) → MayAct parts h state → h < length state.harts
is_there parts state h may = subst (λ n. h < n) (freed_each parts state h may) may.exists

pub freed_here : (state : ModelState) (h : ℕ) → h < length state.harts →
    hart_of (freed state h) h ≡ record (hart_of state h) { held_line = None }
freed_here state h below = hart_of-with_hart_same state h (record (hart_of state h) { held_line = None }) below

-- what is kept for it, and its cache, are those of the freed hart, and so of the one before
pub freed_part : (parts : Parts) (state : ModelState) (h : ℕ) → MayAct parts h state →
    HasOwn (own_at parts.harts h) (record (hart_of state h) { held_line = None })
freed_part parts state h may =
    subst (HasOwn (own_at parts.harts h)) (freed_here state h (is_there parts state h may))
    (may.is_in.harts h may.exists).part

pub own_part : (parts : Parts) (state : ModelState) (h : ℕ) → MayAct parts h state →
    HasOwn (own_at parts.harts h) (hart_of state h)
own_part parts state h may =
    let part = freed_part parts state h may in
    record {
      section = part.section;
      armed = part.armed;
      last_lr = part.last_lr;
      predictor = part.predictor;
      fallback = part.fallback;
      tries = part.tries;
    }

pub own_cache : (parts : Parts) (state : ModelState) (h : ℕ) → MayAct parts h state →
    (cache_in parts h).residency ≡ cache_of state h
own_cache parts state h may =
    may.is_in.shows.caches h ∙ ap (λ hart. hart.cache) (freed_here state h (is_there parts state h may))

-- a hart that becomes another twice, and so one that becomes another in place of the freed one
pub set_twice : (state : ModelState) (h : ℕ) (first second : Hart) →
    with_hart (with_hart state h first) h second ≡ with_hart state h second
set_twice state h first second = ap (λ harts. record state { harts = harts }) (set-set state.harts h first second)

pub freed_then : (state : ModelState) (h : ℕ) (hart : Hart) → with_hart (freed state h) h hart ≡ with_hart state h hart
freed_then state h hart = set_twice state h (record (hart_of state h) { held_line = None }) hart

-- another hart in the place of one, the same but for what the bus keeps
pub same_each : (state : ModelState) (h : ℕ) (hart : Hart) → IsSameHart (hart_of state h) hart → (g : ℕ) →
    IsSameHart (hart_of state g) (hart_of (with_hart state h hart) g)
same_each state h hart same g = record {
  section = with_hart_kept (λ k. k.section) state h hart same.section g;
  armed = with_hart_kept (λ k. k.armed) state h hart same.armed g;
  last_lr = with_hart_kept (λ k. k.last_lr) state h hart same.last_lr g;
  cache = with_hart_kept (λ k. k.cache) state h hart same.cache g;
  predictor = with_hart_kept (λ k. k.predictor) state h hart same.predictor g;
  fallback = with_hart_kept (λ k. k.fallback) state h hart same.fallback g;
  tries = with_hart_kept (λ k. k.tries) state h hart same.tries g;
}

pub has_agent : (parts : Parts) (h line : ℕ) → MayMiss parts h line → h < length parts.bus.agents
has_agent parts h line may =
    omega (arith, may.may.exists, may.may.is_in.one_each, may.may.is_in.shows.agent_each)

pub holds_none : (parts : Parts) (h line : ℕ) → MayMiss parts h line → (agent_at parts.bus.agents h).held_line ≡ None
holds_none parts h line may =
    ap (λ agent. agent.held_line) (may.may.is_in.shows.agents h)
    ∙ ap (λ hart. hart.held_line) (freed_here may.from h (is_there parts may.from h may.may))

-- the request was raised from the freed state, as it is from the first one
missed_is : (state : ModelState) (h line : ℕ) (need : Need) → h < length state.harts →
    with_hart (freed state h) h (missed_hart h line need (hart_of (freed state h) h)) ≡ (missed state h line need).state
missed_is state h line need below =
    ap (λ hart. with_hart (freed state h) h (missed_hart h line need hart)) (freed_here state h below)
    ∙ freed_then state h (missed_hart h line need (hart_of state h))

pub after_missed : (old : Parts) (bus : BusState) (state : ModelState) (h line : ℕ) (need : Need) → MayAct old h state →
    bus.copies ≡ old.bus.copies →
    ((from : ModelState) → Shows old.bus from →
    Shows bus (with_hart from h (missed_hart h line need (hart_of from h)))) →
    IsInState (record old { bus = bus }) (missed state h line need).state
after_missed old bus state h line need may copies shows =
    let from = freed state h in
    let hart = missed_hart h line need (hart_of from h) in
    subst (IsInState (record old { bus = bus })) (missed_is state h line need (is_there old state h may))
    (with_bus old bus from (with_hart from h hart) may.is_in (keeps_with_hart from h hart)
    (same_each from h hart
    (record {
      section = refl;
      armed = refl;
      last_lr = refl;
      cache = refl;
      predictor = refl;
      fallback = refl;
      tries = refl;
    }))
    copies (shows from may.is_in.shows))
