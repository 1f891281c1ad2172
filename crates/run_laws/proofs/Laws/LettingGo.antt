-- what an event of the bus changes beside a hart: nothing, where it lets the hart not go
use Rattle.std.proofs.Common.{◌≡◌, ◌≢◌, ◌∙◌, ◌≤◌, ◌+◌, ◌-◌, ◌⊎◌, ℕ, zero, suc, Bool, true, false, List, Option, None}
use Rattle.std.proofs.Common.{Some, is_some, replicate, refl, ap}
use Rattle.std.proofs.Common.{sym, subst, arith, inl, inr}
use Rattle.std.specs.Prelude.{nat_lt}
use Rattle.std.proofs.lemmas.Bool.{ltb-false, ltb-true}
use Rattle.bus_order.specs.Order.{Request}
use Rattle.residency.specs.Residency.{Way}
use Rattle.el_base.proofs.Laws.FreedOrder.{order_below-more}
use Rattle.el_base.proofs.Laws.MadeLosers.{count_in-beyond, none_in_no_one}
use Rattle.el_base.specs.Freed.{count_in, order_below, order_of}
use Rattle.el_base.specs.declared.freed.Freed.{Freed}
use Rattle.el_base.proofs.Laws.Cases.{clash, none_some}
use Rattle.el_model.specs.Armed.{freed_by, freed_count, is_freed, let_go}
use Rattle.el_model.specs.BusEvent.{Becomes, Frees, IsBusEvent, Start, as_met, faced_head, freed_in}
use Rattle.el_model.specs.Face.{freed_if, met}
use Rattle.el_model.specs.Plain.{armed_count}
use Rattle.el_model.specs.State.{Armed, Hart, ModelState, Turn, armed_of, cache_of, hart_of}
use Rattle.el_model.proofs.Laws.BusEvents.{met_becomes}
use Rattle.el_model.proofs.Laws.Tests.{by_test}
use Rattle.el_model.proofs.Laws.HartParts.{claim_armed}
use Rattle.rv_flat.proofs.Laws.StepLaws.{run_append}
use Rattle.rv_flat.specs.FlatState.{FlatState, view_of}
use Rattle.rv_flat.specs.Run.{alone, run}
use Rattle.section_laws.proofs.Laws.EachKept.{BusKept, becomes_keeps}
use Rattle.section_laws.proofs.Laws.Moves.{Moves, freed_is_armed, met_keeps, moves_by_ends}
use Rattle.section_laws.proofs.Laws.SerialLength.{freed_at_most}
use Rattle.section_laws.proofs.Laws.Statuses.{unfreed_count}
use Rattle.run_laws.proofs.Beside.{armed_beside, beside_twice, same_beside}
use Rattle.run_laws.proofs.Laws.Bits.{same_bits}
use Rattle.run_laws.proofs.Laws.EventsBeside.{AllArmed}
use Rattle.run_laws.proofs.Laws.ButAView.{armed_keeps, but_views_twice, same_but_a_view, same_but_views}
use Rattle.run_laws.proofs.Laws.Survival.{armed_alike, armed_survives}
use Rattle.run_laws.specs.PrivateRun.{IsArmedRun, IsChangeBeside, KeepsAllButAView, KeepsAllButViews, KeepsMemory}

-- so many instructions of a hart are of an armed run
pub record HasRun (committed : FlatState) (h : ℕ) (cache : List (List Way)) (n : ℕ) : Type 0 where
  pub armed : Armed
  pub run : IsArmedRun committed h cache armed
  pub within : n ≤ armed.count

-- the harts that are let go take effect one after another, and each survives what those before it changed
module _ (committed : FlatState) (caches : ℕ → List (List Way)) (freed : Freed)
    (runs : (h : ℕ) → 1 ≤ count_in freed h → HasRun committed h (caches h) (count_in freed h)) where
  abbrev after_below : ℕ → FlatState
  after_below n = run committed (order_below n freed)

  one_more : (n : ℕ) → after_below (suc n) ≡ alone (after_below n) n (count_in freed n)
  one_more n =
      let next : suc n ≡ n + 1 = omega arith in
      ap (λ m. run committed (order_below m freed)) next ∙ ap (run committed) (order_below-more n freed)
      ∙ run_append committed (order_below n freed) (replicate (count_in freed n) n)

  apart_from : (n g : ℕ) → (suc n ≤ g) ⊎ (count_in freed g ≡ 0) → 1 ≤ count_in freed n → g ≢ n
  apart_from n g (inl later) some same = absurd (omega (arith, later, same))
  apart_from n g (inr none) some same = let is : count_in freed n ≡ 0 = ap (count_in freed) (sym same) ∙ none in
      absurd (omega (arith, is, some))

  earlier : (n g : ℕ) → (suc n ≤ g) ⊎ (count_in freed g ≡ 0) → (n ≤ g) ⊎ (count_in freed g ≡ 0)
  earlier n g (inl later) = inl (omega (arith, later))
  earlier n g (inr none) = inr none

  next_beside : (n g : ℕ) → (suc n ≤ g) ⊎ (count_in freed g ≡ 0) →
      IsChangeBeside n (caches n) committed (after_below n) → (count : ℕ) → count_in freed n ≡ count →
      IsChangeBeside g (caches g) (after_below n) (alone (after_below n) n count)
  next_beside n g spared own zero is = same_beside g (caches g) (after_below n)
  next_beside n g spared own (suc k) is =
      let some : 1 ≤ count_in freed n = omega (arith, is) in
      let mine = runs n some in
      let within = mine.within in
      armed_beside (after_below n) n g (caches n) (caches g) mine.armed (suc k) (apart_from n g spared some)
      (armed_survives n (caches n) mine.armed committed (after_below n) mine.run own) (omega (arith, is, within))

  below_beside : (n g : ℕ) → (n ≤ g) ⊎ (count_in freed g ≡ 0) → IsChangeBeside g (caches g) committed (after_below n)
  below_beside zero g spared = same_beside g (caches g) committed
  below_beside (suc n) g spared =
      subst (IsChangeBeside g (caches g) committed) (sym (one_more n))
      (beside_twice g (caches g) (caches g) committed (after_below n) (alone (after_below n) n (count_in freed n))
      (same_bits (caches g))
      (below_beside n g (earlier n g spared))
      (next_beside n g spared (below_beside n n (inl (omega arith))) (count_in freed n) refl))

  pub freed_beside : (g : ℕ) → count_in freed g ≡ 0 →
      IsChangeBeside g (caches g) committed (run committed (order_of freed))
  unfolding order_of
  freed_beside g none = below_beside 8 g (inr none)

  -- where the hart that comes next has its run yet
  next_run : (n : ℕ) → (some : 1 ≤ count_in freed n) → IsArmedRun (after_below n) n (caches n) (runs n some).armed
  next_run n some =
      let mine = runs n some in
      armed_survives n (caches n) mine.armed committed (after_below n) mine.run (below_beside n n (inl (omega arith)))

  -- all but the views of the harts stays
  next_keeps : (n count : ℕ) → count_in freed n ≡ count →
      KeepsAllButAView n (after_below n) (alone (after_below n) n count)
  next_keeps n zero is = same_but_a_view n (after_below n)
  next_keeps n (suc k) is =
      let some : 1 ≤ count_in freed n = omega (arith, is) in
      let mine = runs n some in
      let within = mine.within in
      armed_keeps (after_below n) n (caches n) mine.armed (next_run n some) (suc k) (omega (arith, is, within))

  below_keeps : (n : ℕ) → KeepsAllButViews committed (after_below n)
  below_keeps zero = same_but_views committed
  below_keeps (suc n) =
      subst (KeepsAllButViews committed) (sym (one_more n))
      (but_views_twice committed (after_below n) (alone (after_below n) n (count_in freed n)) (below_keeps n)
      (next_keeps n (count_in freed n) refl).rest)

  pub freed_keeps : KeepsAllButViews committed (run committed (order_of freed))
  unfolding order_of
  freed_keeps = below_keeps 8

  pub freed_memory : KeepsMemory committed (run committed (order_of freed))
  freed_memory = record { base = freed_keeps.shape.base; bytes = freed_keeps.bytes }

  -- a hart that is let go changes no other's view
  same_view : (n g count : ℕ) → count_in freed n ≡ count → (1 ≤ count_in freed n → g ≢ n) →
      view_of (alone (after_below n) n count) g ≡ view_of (after_below n) g
  same_view n g zero is apart = refl
  same_view n g (suc k) is apart = (next_keeps n (suc k) is).others g (apart (omega (arith, is)))

  next_view : (n g : ℕ) → (1 ≤ count_in freed n → g ≢ n) → view_of (after_below (suc n)) g ≡ view_of (after_below n) g
  next_view n g apart = ap (λ state. view_of state g) (one_more n) ∙ same_view n g (count_in freed n) refl apart

  spared_below : (n g : ℕ) → (n ≤ g) ⊎ (count_in freed g ≡ 0) → view_of (after_below n) g ≡ view_of committed g
  spared_below zero g spared = refl
  spared_below (suc n) g spared = next_view n g (apart_from n g spared) ∙ spared_below n g (earlier n g spared)

  -- and its own becomes that of its private run
  own_below : (g : ℕ) → 1 ≤ count_in freed g →
      view_of (after_below (suc g)) g ≡ view_of (alone committed g (count_in freed g)) g
  own_below g some =
      let mine = runs g some in
      ap (λ state. view_of state g) (one_more g)
      ∙ (armed_alike g (caches g) mine.armed committed (after_below g) mine.run (below_beside g g (inl (omega arith)))
      (count_in freed g) some
      mine.within).view

  later_below : (k g n : ℕ) → n ≡ suc g + k → 1 ≤ count_in freed g →
      view_of (after_below n) g ≡ view_of (alone committed g (count_in freed g)) g
  later_below zero g n is some =
      let last : n ≡ suc g = omega (arith, is) in ap (λ m. view_of (after_below m) g) last ∙ own_below g some
  later_below (suc k) g n is some =
      let more : n ≡ suc (suc g + k) = omega (arith, is) in
      ap (λ m. view_of (after_below m) g) more ∙ next_view (suc g + k) g (λ there same. omega (arith, same))
      ∙ later_below k g (suc g + k) refl some

  pub spared_view : (g : ℕ) → count_in freed g ≡ 0 → view_of (run committed (order_of freed)) g ≡ view_of committed g
  unfolding order_of
  spared_view g none = spared_below 8 g (inr none)

  pub freed_view : (g : ℕ) → 1 ≤ count_in freed g →
      view_of (run committed (order_of freed)) g ≡ view_of (alone committed g (count_in freed g)) g
  unfolding order_of
  freed_view g some = by (nat_lt g 8) refl
    where
      by : (below : Bool) → nat_lt g 8 ≡ below →
          view_of (after_below 8) g ≡ view_of (alone committed g (count_in freed g)) g
      by true is = let below = ltb-true g 8 is in later_below (7 - g) g 8 (omega (arith, below)) some
      by false is = let none = count_in-beyond freed g (ltb-false g 8 is) in absurd (omega (arith, none, some))

-- a hart that is armed in an event of the bus was so before, in the same section
same_armed : (old : ModelState) →
    BusKept (λ h hart. (armed : Armed) → hart.armed ≡ Some armed → armed_of old h ≡ Some armed)
same_armed old = record {
  moves = moves_by_ends (λ h hart other now. now)
      (λ h hart now armed is. none_some is)
      (λ h pc hart now armed is. none_some is);
  unraised = λ h hart now. now;
  served = λ h state request hart now armed is. now armed (sym (claim_armed (is_some hart.section) request _) ∙ is);
  bystander = λ h state request hart now. now;
}

pub was_armed : (state : ModelState) (by : ℕ) (start : Start) (h : ℕ) {lost : Option ℕ} {hart : Hart} →
    Becomes state by start h lost hart → (armed : Armed) → hart.armed ≡ Some armed → armed_of state h ≡ Some armed
was_armed state by start h becomes = becomes_keeps (same_armed state) state by start h (λ armed is. is) becomes

some_armed : (state : ModelState) (by : ℕ) (start : Start) (h : ℕ) {lost : Option ℕ} {hart : Hart} →
    Becomes state by start h lost hart → (found : Option Armed) → hart.armed ≡ found → is_some found ≡ true →
    is_some (armed_of state h) ≡ true
some_armed state by start h becomes None is some = absurd (cc)
some_armed state by start h becomes (Some armed) is some = ap is_some (was_armed state by start h becomes armed is)

pub frees_armed : (state : ModelState) (by : ℕ) (start : Start) (h : ℕ) (head : Request) → Frees state by start h head →
    is_some (armed_of state h) ≡ true
frees_armed state by start h head frees =
    some_armed state by start h (met_becomes state by start head frees.head_is h)
    (hart_of (as_met state by start) h).armed refl
    (freed_is_armed head h (hart_of (as_met state by start) h) frees.freed)

-- what is let go of a hart is of its armed run
freed_of_armed : (head : Request) (h : ℕ) (hart : Hart) → freed_count head h hart ≤ armed_count hart.armed
freed_of_armed head h hart =
    by_test (λ n. n ≤ armed_count hart.armed) (is_freed head h hart) (armed_count hart.armed) 0 (λ freed. omega arith)
    (λ unfreed. omega arith)

has_run : (state : ModelState) (caches : ℕ → List (List Way)) (h n : ℕ) (found : Option Armed) → n ≤ armed_count found →
    1 ≤ n → ((armed : Armed) → found ≡ Some armed → IsArmedRun state.committed h (caches h) armed) →
    HasRun state.committed h (caches h) n
has_run state caches h n None most some runs = absurd (omega (arith, most, some))
has_run state caches h n (Some armed) most some runs = record { armed = armed; run = runs armed refl; within = most }

-- as a head lets harts go
let_go_runs : (state : ModelState) (head : Request) → AllArmed state → (h : ℕ) → 1 ≤ count_in (freed_by state head) h →
    HasRun state.committed h (cache_of state h) (count_in (freed_by state head) h)
let_go_runs state head all h some =
    let most = freed_at_most state head h in
    let of_armed = freed_of_armed head h (hart_of state h) in
    has_run state (cache_of state) h (count_in (freed_by state head) h) (armed_of state h)
    (omega (arith, most, of_armed)) some (all h)

pub let_go_beside : (state : ModelState) (head : Request) (g : ℕ) → AllArmed state →
    is_freed head g (hart_of state g) ≡ false →
    IsChangeBeside g (cache_of state g) state.committed (let_go state head).committed
unfolding let_go
let_go_beside state head g all unfreed =
    freed_beside state.committed (cache_of state) (freed_by state head) (let_go_runs state head all) g
    (unfreed_count state head g unfreed)

pub let_go_memory : (state : ModelState) (head : Request) → AllArmed state →
    KeepsMemory state.committed (let_go state head).committed
unfolding let_go
let_go_memory state head all =
    freed_memory state.committed (cache_of state) (freed_by state head) (let_go_runs state head all)

-- and so in an event of the bus
event_runs : (state : ModelState) (by : ℕ) (start : Start) → AllArmed state → (found : Option Request) →
    faced_head state start ≡ found → (h : ℕ) → 1 ≤ count_in (freed_if (as_met state by start) found) h →
    HasRun state.committed h (cache_of state h) (count_in (freed_if (as_met state by start) found) h)
event_runs state by start all None is h some = let none = none_in_no_one h in absurd (omega (arith, none, some))
event_runs state by start all (Some head) is h some =
    let mid = as_met state by start in
    let most = freed_at_most mid head h in
    let of_armed = freed_of_armed head h (hart_of mid h) in
    has_run state (cache_of state) h (count_in (freed_by mid head) h) (hart_of mid h).armed
    (omega (arith, most, of_armed)) some
    (λ armed there. all h armed (was_armed state by start h (met_becomes state by start head is h) armed there))

-- what it leaves of what is committed: all but the views of the harts that it lets go, which come
-- to those of their private runs
pub record LeavesViews (state : ModelState) (freed : Freed) (new : FlatState) : Type 0 where
  pub keeps : KeepsAllButViews state.committed new
  pub spared : (g : ℕ) → count_in freed g ≡ 0 → view_of new g ≡ view_of state.committed g
  pub let_go : (g : ℕ) → 1 ≤ count_in freed g → view_of new g ≡ view_of (alone state.committed g (count_in freed g)) g

pub bus_leaves : {state : ModelState} {by : ℕ} {turn : Turn} → (done : IsBusEvent state by turn) → AllArmed state →
    LeavesViews state (freed_in state by done.start) turn.state.committed
bus_leaves {state} {by} {turn} done all =
    let freed = freed_in state by done.start in
    let runs = event_runs state by done.start all (faced_head state done.start) refl in
    subst (LeavesViews state freed) (sym done.committed)
    (record {
      keeps = freed_keeps state.committed (cache_of state) freed runs;
      spared = spared_view state.committed (cache_of state) freed runs;
      let_go = freed_view state.committed (cache_of state) freed runs;
    })

pub bus_beside : {state : ModelState} {by : ℕ} {turn : Turn} → (done : IsBusEvent state by turn) → AllArmed state →
    (g : ℕ) → count_in (freed_in state by done.start) g ≡ 0 →
    IsChangeBeside g (cache_of state g) state.committed turn.state.committed
bus_beside {state} {by} {turn} done all g none =
    subst (IsChangeBeside g (cache_of state g) state.committed) (sym done.committed)
    (freed_beside state.committed (cache_of state) (freed_in state by done.start)
    (event_runs state by done.start all (faced_head state done.start) refl) g none)

-- a hart that is let go was armed, and is so no more
pub record IsGone (state new : ModelState) (h : ℕ) : Type 0 where
  pub was : is_some (armed_of state h) ≡ true
  pub unarmed : armed_of new h ≡ None

Ending : ModelState → Request → ℕ → Hart → Type 0
Ending state head h hart = is_freed head h (hart_of state h) ≡ true → hart.armed ≡ None

ending_moves : (state : ModelState) (head : Request) → Moves (Ending state head)
unfolding Ending
ending_moves state head = moves_by_ends (λ h hart other now. now)
    (λ h hart now freed. refl)
    (λ h pc hart now freed. refl)

met_ends : (state : ModelState) (head : Request) (h : ℕ) → is_freed head h (hart_of state h) ≡ true →
    (hart_of (met state head) h).armed ≡ None
unfolding Ending
met_ends state head =
    met_keeps (ending_moves state head) state head (λ h freed is. refl) (λ h unfreed is. clash unfreed is)

pub spared_or_gone : {state : ModelState} {by : ℕ} {turn : Turn} → (done : IsBusEvent state by turn) → (g : ℕ) →
    (count_in (freed_in state by done.start) g ≡ 0) ⊎ IsGone state turn.state g
spared_or_gone {state} {by} {turn} done g = by_head (faced_head state done.start) refl
  where
    by_test_of : (head : Request) → faced_head state done.start ≡ Some head → (freed : Bool) →
        is_freed head g (hart_of (as_met state by done.start) g) ≡ freed →
        (count_in (freed_by (as_met state by done.start) head) g ≡ 0) ⊎ IsGone state turn.state g
    by_test_of head is false unfreed = inl (unfreed_count (as_met state by done.start) head g unfreed)
    by_test_of head is true freed =
        inr (record {
          was = frees_armed state by done.start g head (record { head_is = is; freed = freed });
          unarmed =
              ap (λ new. armed_of new g) (done.faces head is) ∙ met_ends (as_met state by done.start) head g freed;
        })

    by_head : (found : Option Request) → faced_head state done.start ≡ found →
        (count_in (freed_if (as_met state by done.start) found) g ≡ 0) ⊎ IsGone state turn.state g
    by_head None is = inl (none_in_no_one g)
    by_head (Some head) is = by_test_of head is (is_freed head g (hart_of (as_met state by done.start) g)) refl
