-- what the bus shows after a head has let harts go
use Rattle.std.proofs.Common.{◌≡◌, ◌∙◌, ℕ, ◌≤◌, ◌==◌, ◌&&◌, Bool, true, false, not, length, is_some, refl, ap, sym}
use Rattle.std.proofs.Common.{subst, arith, inl, inr, if◌then◌else◌}
use Rattle.std.proofs.lemmas.Bool.{cases_lt}
use Rattle.bus_agent.specs.Agent.{Agent, agent_at, agent_of}
use Rattle.bus_order.specs.Order.{Request}
use Rattle.residency.specs.Cache.{has_bit}
use Rattle.coherence.specs.Lent.{slotted_at}
use Rattle.el_base.proofs.Laws.MadeLosers.{count_in-beyond, count_in-freed_of}
use Rattle.el_base.proofs.Laws.SameLosers.{same_freed}
use Rattle.el_base.specs.Freed.{count_in}
use Rattle.el_base.specs.declared.config.Mode.{Mode}
use Rattle.el_base.specs.declared.config.Mode.TheVariants.{Plain, Sle, Tlr}
use Rattle.el_base.specs.declared.freed.Freed.{Freed}
use Rattle.el_model.proofs.Laws.Keeps.{keeps_before_face, keeps_faced, keeps_served}
use Rattle.el_model.specs.Armed.{freed_by, freed_count, freed_hart, is_freed, let_go, let_go_hart}
use Rattle.el_model.specs.Conflicts.{conflicts, is_write, wins_over}
use Rattle.el_model.specs.Face.{LosesTo, Unmet, deferring_fate, face_losers, fate_at, met, winner_in}
use Rattle.el_model.specs.Order.{Place, before_face}
use Rattle.el_model.specs.Plain.{armed_count}
use Rattle.el_model.specs.Serve.{served}
use Rattle.el_model.specs.State.{Hart, ModelState, each_hart, hart_of}
use Rattle.el_base.specs.Losers.{losers_of}
use Rattle.rv_flat.specs.FlatState.{FlatState, view_of}
use Rattle.snoop.proofs.Changes.{any_ways, changed_ready}
use Rattle.snoop.proofs.Laws.Living.{TellsSection, armed_lifeless, tells, tells_cleared}
use Rattle.snoop.proofs.Showing.{ShowsEach, lies_yet, shows_each}
use Rattle.snoop.specs.Changing.{cleared_if}
use Rattle.snoop.specs.LettingGo.{AreLetGo, KeepsBytes, agent_let_go, freed_at, frees, goes, with_committed}
use Rattle.snoop.specs.Shows.{IsReady, BusState, Shows}

-- the harts that the bus tells are the definition's
frees_shown : (bus : BusState) (state : ModelState) (head : Request) (h : ℕ) → Shows bus state →
    frees bus head h ≡ is_freed head h (hart_of state h)
frees_shown bus state head h shows =
    let first = is_write head && not (head.hart == h) in
    ap (λ agent. first && not (agent.armed == 0) && has_bit (slotted_at bus.copies.caches h).residency head.line)
    (shows.agents h)
    ∙ ap (λ armed. first && armed && has_bit (slotted_at bus.copies.caches h).residency head.line) (sym (shows.arms h))
    ∙ ap (λ cache. first && is_some (hart_of state h).armed && has_bit cache head.line) (shows.caches h)

freed_shown : (bus : BusState) (state : ModelState) (head : Request) (h : ℕ) → Shows bus state →
    freed_at bus head h ≡ freed_count head h (hart_of state h)
freed_shown bus state head h shows =
    ap (λ agent. if frees bus head h then agent.armed else 0) (shows.agents h)
    ∙ ap (λ test. if test then armed_count (hart_of state h).armed else 0) (frees_shown bus state head h shows)

pub freed_is : (bus : BusState) (state : ModelState) (head : Request) (freed : Freed) → IsReady bus → Shows bus state →
    ((h : ℕ) → count_in freed h ≡ freed_at bus head h) → freed ≡ freed_by state head
freed_is bus state head freed ready shows is =
    same_freed freed (freed_by state head)
    (λ h. elim (cases_lt h 8) [
      | inl low ↦
          is h ∙ freed_shown bus state head h shows
          ∙ sym (count_in-freed_of (λ g. freed_count head g (hart_of state g)) h low
          (subst (λ n. n ≤ 15) (freed_shown bus state head h shows) (few h)))
      | inr high ↦ count_in-beyond freed h high ∙ sym (count_in-beyond (freed_by state head) h high)
    ])
  where
    few_if : (test : Bool) (n : ℕ) → n ≤ 15 → (if test then n else 0) ≤ 15
    few_if true n few = few
    few_if false n few = omega arith

    few : (h : ℕ) → freed_at bus head h ≤ 15
    few h = few_if (frees bus head h) (agent_at bus.agents h).armed (ready.few_armed h)

-- a hart goes exactly where the head frees it
goes_if : (test : Bool) (n count : ℕ) → (test ≡ true → not (n == 0) ≡ true) → count ≡ (if test then n else 0) →
    not (count == 0) ≡ test
goes_if true n count some is = ap (λ k. not (k == 0)) is ∙ some refl
goes_if false n count some is = ap (λ k. not (k == 0)) is

armed_of_freed : (first armed bit : Bool) → (first && armed && bit) ≡ true → armed ≡ true
armed_of_freed true true bit is = refl
armed_of_freed true false bit is = absurd (cc)
armed_of_freed false armed bit is = lose armed bit is
  where
    lose : (armed bit : Bool) → (false && armed && bit) ≡ true → armed ≡ true
    lose true bit is = refl
    lose false bit is = absurd (cc)

goes_shown : (bus : BusState) (state : ModelState) (head : Request) (freed : Freed) → Shows bus state →
    ((h : ℕ) → count_in freed h ≡ freed_at bus head h) → (h : ℕ) → goes freed h ≡ is_freed head h (hart_of state h)
goes_shown bus state head freed shows is h =
    goes_if (frees bus head h) (agent_at bus.agents h).armed (count_in freed h)
    (armed_of_freed (is_write head && not (head.hart == h)) (not ((agent_at bus.agents h).armed == 0))
    (has_bit (slotted_at bus.copies.caches h).residency head.line))
    (is h)
    ∙ frees_shown bus state head h shows

-- a hart that is let go, as the bus shows it
abbrev gone_if : Bool → ℕ → Hart → Hart
gone_if test pc hart = if test then let_go_hart pc hart else hart

gone_agent : (test : Bool) (pc : ℕ) (hart : Hart) → agent_let_go test (agent_of hart) ≡ agent_of (gone_if test pc hart)
gone_agent true pc hart = refl
gone_agent false pc hart = refl

gone_cache : (test : Bool) (pc : ℕ) (hart : Hart) → cleared_if test hart.cache ≡ (gone_if test pc hart).cache
gone_cache true pc hart = refl
gone_cache false pc hart = refl

gone_tells : (test : Bool) (pc : ℕ) (hart : Hart) → (test ≡ true → is_some hart.armed ≡ true) → TellsSection hart →
    TellsSection (gone_if test pc hart)
gone_tells true pc hart armed told =
    tells_cleared (let_go_hart pc hart) hart.cache (armed_lifeless hart told (armed refl)) refl refl
gone_tells false pc hart armed told = told

freed_tells : (state : ModelState) (head : Request) (h : ℕ) (hart : Hart) → TellsSection hart →
    TellsSection (freed_hart state head h hart)
freed_tells state head h hart told =
    gone_tells (is_freed head h hart) (view_of state.committed h).pc hart
    (armed_of_freed (is_write head && not (head.hart == h)) (is_some hart.armed) (has_bit hart.cache head.line)) told

let_go_each : (bus new : BusState) (state : ModelState) (head : Request) (freed : Freed) → Shows bus state →
    ((h : ℕ) → count_in freed h ≡ freed_at bus head h) → AreLetGo freed (length bus.agents) bus new →
    ShowsEach bus new state (freed_hart state head)
let_go_each bus new state head freed shows is gone = record {
  mode = gone.mode;
  agent_each = gone.count;
  cache_each = gone.stays.caches;
  ways = any_ways gone;
  agents = λ h below.
      gone.agents h below
      ∙ ap (agent_let_go (goes freed h)) (shows.agents h)
      ∙ ap (λ test. agent_let_go test (agent_of (hart_of state h))) (goes_shown bus state head freed shows is h)
      ∙ gone_agent (is_freed head h (hart_of state h)) (view_of state.committed h).pc (hart_of state h);
  caches = λ h below.
      (gone.caches h below).residency
      ∙ ap (cleared_if (goes freed h)) (shows.caches h)
      ∙ ap (λ test. cleared_if test (hart_of state h).cache) (goes_shown bus state head freed shows is h)
      ∙ gone_cache (is_freed head h (hart_of state h)) (view_of state.committed h).pc (hart_of state h);
  told = λ h below. freed_tells state head h (hart_of state h) (tells shows h);
  memory = lies_yet bus.copies new.copies state.committed gone.stays.first gone.stays.lines shows.memory;
}

-- the state that is shown, over the committed part of before
pub let_go_shows : (bus new : BusState) (state : ModelState) (head : Request) (freed : Freed) → Shows bus state →
    ((h : ℕ) → count_in freed h ≡ freed_at bus head h) → AreLetGo freed (length bus.agents) bus new →
    Shows new (with_committed state.committed (let_go state head))
unfolding let_go
let_go_shows bus new state head freed shows is gone =
    subst (λ order. Shows new (record (each_hart state (freed_hart state head)) { order = order }))
    (gone.order ∙ shows.order)
    (shows_each bus new state (freed_hart state head) shows (let_go_each bus new state head freed shows is gone))

pub let_go_ready : (bus new : BusState) (freed : Freed) (number : ℕ) → AreLetGo freed number bus new →
    IsReady bus → IsReady new
let_go_ready bus new freed number gone ready =
    changed_ready gone (λ h agent. raised_yet (goes freed h) agent)
    (λ h agent few. few_yet (goes freed h) agent few) ready
  where
    raised_yet : (test : Bool) (agent : Agent) → (agent_let_go test agent).raised ≡ agent.raised
    raised_yet true agent = refl
    raised_yet false agent = refl

    few_yet : (test : Bool) (agent : Agent) → agent.armed ≤ 15 → (agent_let_go test agent).armed ≤ 15
    few_yet true agent few = omega arith
    few_yet false agent few = few

-- who loses is no matter of what is committed
deferring_elsewhere : (mode : Mode) (state : ModelState) (committed : FlatState) (head : Request) (hart : Hart) →
    deferring_fate mode (with_committed committed state) head hart ≡ deferring_fate mode state head hart
deferring_elsewhere Tlr state committed head hart = refl
deferring_elsewhere Sle state committed head hart = refl
deferring_elsewhere Plain state committed head hart = refl

fate_elsewhere : (state : ModelState) (committed : FlatState) (head : Request) (h : ℕ) →
    fate_at (with_committed committed state) head h ≡ fate_at state head h
fate_elsewhere state committed head h =
    ap
    (λ deferring. if conflicts head h (hart_of state h)
    then (if wins_over state.config.mode head.stamp (hart_of state h) then LosesTo head.hart else deferring) else Unmet)
    (deferring_elsewhere state.config.mode state committed head (hart_of state h))

pub losers_elsewhere : (state : ModelState) (committed : FlatState) (head : Request) →
    face_losers (with_committed committed state) head ≡ face_losers state head
unfolding face_losers
losers_elsewhere state committed head = λ i. losers_of (λ h. winner_in (fate_elsewhere state committed head h i))

-- a face changes nothing that is committed, and nor does what comes before a head is met
pub met_bytes : (state : ModelState) (head : Request) (committed : FlatState) →
    KeepsBytes committed (met state head).committed → KeepsBytes committed (let_go state head).committed
met_bytes state head committed keeps =
    subst (KeepsBytes committed) (keeps_faced (let_go state head) head).committed keeps

pub placed_bytes : (state : ModelState) (request : Request) (place : Place) (committed : FlatState) →
    KeepsBytes state.committed committed → KeepsBytes (before_face state request place).committed committed
placed_bytes state request place committed keeps =
    subst (λ before. KeepsBytes before committed) (sym (keeps_before_face state request place).committed) keeps

pub served_bytes : (state : ModelState) (request : Request) (committed : FlatState) →
    KeepsBytes state.committed committed → KeepsBytes (served state request).committed committed
served_bytes state request committed keeps =
    subst (λ before. KeepsBytes before committed) (sym (keeps_served state request).committed) keeps
