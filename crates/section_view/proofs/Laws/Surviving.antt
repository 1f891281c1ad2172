-- the same view and hold keep a section's run after a change beside its hart, and the same
-- view and value an armed section's
use Rattle.std.proofs.Common.{◌≡◌, ◌≤◌, ◌<◌, ◌+◌, ◌∙◌, ◌⊎◌, ℕ, zero, suc, Bool, true, false, List, None, Some, arith}
use Rattle.std.proofs.Common.{ap, sym, refl, subst}
use Rattle.std.proofs.Common.{inl, inr}
use Rattle.std.specs.Prelude.{slice_index}
use Rattle.std.proofs.lemmas.Bool.{cases_lt, or_left, or_right}
use Rattle.residency.specs.Cache.{has_bit, read_bit, write_bit}
use Rattle.residency.specs.Residency.{Way}
use Rattle.el_base.specs.Line.{line_number}
use Rattle.el_base.proofs.Laws.Tests.{first_not, second_not}
use Rattle.el_model.specs.State.{Armed, Section}
use Rattle.el_model.specs.Upcoming.{Swap, calls, next_access, next_execution, next_touch, stops}
use Rattle.rv_alu.proofs.Laws.Executions.{loaded-same}
use Rattle.rv_alu.specs.Loaded.{loaded}
use Rattle.rv_alu.specs.declared.view.HartView.{HartView}
use Rattle.rv_flat.specs.FlatState.{FlatState, view_of}
use Rattle.rv_flat.specs.Laws.{footprint_of, next_insn, written_line}
use Rattle.rv_flat.specs.Memory.{byte_in}
use Rattle.rv_flat.specs.Run.{alone}
use Rattle.run_laws.proofs.Laws.Alike.{SamePlaces, same_access}
use Rattle.run_laws.proofs.Laws.Shown.{running_footprint, unwritten_shown}
use Rattle.run_laws.proofs.Laws.Reserving.{AcquiresAt, acquires_at, reserves}
use Rattle.run_laws.proofs.Laws.Survival.{armed_runs_survive, survives}
use Rattle.run_laws.proofs.Laws.Touches.{IsOnBit, agree_there}
use Rattle.run_laws.specs.PrivateRun.{IsAcquire, IsArmedRun, IsChangeBeside, IsCoveredRun, IsOutsideWord, ShowsTheSame}
use Rattle.section_view.specs.ArmedLaws.{KeptArmedRunsSurvive}
use Rattle.section_view.proofs.Laws.Shapes.{goes_on_at}
use Rattle.rv_flat.proofs.Laws.Shapes.{keeps_alone}
use Rattle.section_view.specs.KeptRun.{HoldsMarked, KeepsRun, WroteLine}
use Rattle.section_view.specs.Laws.{KeptRunsSurvive, MarksStay}
use Rattle.write_hold.proofs.Laws.LookUps.{holds_line_of_held}
use Rattle.write_hold.specs.Held.{Entry, held}

pub marks_stay : MarksStay
marks_stay old new hold keeps marked line there = keeps line (marked line there)

-- the first instructions of an armed run are one too
shorter_armed : (committed : FlatState) (h : ℕ) (cache : List (List Way)) (armed : Armed) (n : ℕ) →
    IsArmedRun committed h cache armed → 1 ≤ n → n ≤ armed.count →
    IsArmedRun committed h cache (record armed { count = n })
shorter_armed committed h cache armed n run some within = record {
  some = some;
  reserve = run.reserve;
  read = run.read;
  running = λ k less. run.running k (omega arith);
  quiet = λ k from less. run.quiet k from (omega arith);
}

-- and those of a covered run, from its acquire on
shorter : (committed : FlatState) (h : ℕ) (cache : List (List Way)) (section : Section) (n : ℕ)
    (run : IsCoveredRun committed h cache section) → run.before < n → n ≤ section.count →
    IsCoveredRun committed h cache (record section { count = n })
shorter committed h cache section n run some within = record {
  before = run.before;
  some = some;
  acquire = run.acquire;
  read = run.read;
  running = λ k less. run.running k (omega arith);
  inside = λ k from less. run.inside k from (omega arith);
}

-- steps of a hart leave two states alike that lie alike
places_at : (h : ℕ) (cache : List (List Way)) (old new : FlatState) → IsChangeBeside h cache old new → (n : ℕ) →
    SamePlaces (alone old h n) (alone new h n)
places_at h cache old new change n =
    let left = keeps_alone old h n in
    let right = keeps_alone new h n in
    record {
      base = right.base ∙ change.base ∙ sym left.base;
      code = right.code ∙ change.code ∙ sym left.code;
      size = right.length_of_bytes ∙ change.size ∙ sym left.length_of_bytes;
    }

-- before an acquire, and at it, the hart's view is the same, and its first instruction touches the same
module _ (h : ℕ) (cache : List (List Way)) (old new : FlatState) (change : IsChangeBeside h cache old new) where
  armed_view : (before : ℕ) (swap : Swap) → IsAcquire old h cache before swap → (n : ℕ) → 1 ≤ n → n ≤ before →
      view_of (alone new h n) h ≡ view_of (alone old h n) h
  armed_view zero swap is n some within = absurd (omega (arith, some, within))
  armed_view (suc before) swap (run, is) n some within =
      (armed_runs_survive h cache (record { count = n; word = swap.word }) old new
      (shorter_armed old h cache (record { count = suc before; word = swap.word }) n run some within) change).1.view

  first_touch : (before : ℕ) (swap : Swap) → IsAcquire old h cache before swap → (other : ℕ) → other ≤ before →
      IsAcquire new h cache other swap →
      next_access new h ≡ next_access old h
  first_touch zero swap is other within there =
      let none : other ≡ 0 = omega (arith, within) in
      let again = subst (λ n. AcquiresAt new h n swap) none (acquires_at new h cache other swap there) in
      again.stores.writes ∙ sym (acquires_at old h cache zero swap is).stores.writes
  first_touch (suc before) swap (run, is) other within there =
      let again = (armed_runs_survive h cache (record { count = suc before; word = swap.word }) old new run change).0 in
      (reserves new h swap.word again.reserve).reads ∙ sym (reserves old h swap.word run.reserve).reads

module _ (h : ℕ) (cache : List (List Way)) (section : Section) (old new : FlatState) (view : HartView)
    (hold : List Entry)
    (run : IsCoveredRun old h cache section) (change : IsChangeBeside h cache old new) (marked : HoldsMarked cache hold)
    (keeps : KeepsRun old h section view hold) where
  new_run : IsCoveredRun new h cache section
  new_run = (survives h cache section old new run change).0

  shows : ShowsTheSame h section.count old new
  shows = (survives h cache section old new run change).1

  -- each instruction touches the same
  same_view : (n : ℕ) → 1 ≤ n → n ≤ section.count → view_of (alone new h n) h ≡ view_of (alone old h n) h
  same_view n some within = by (cases_lt run.before n)
    where
      by : (run.before < n) ⊎ (n ≤ run.before) → view_of (alone new h n) h ≡ view_of (alone old h n) h
      by (inl past) =
          (survives h cache (record section { count = n }) old new
          (shorter old h cache section n run past within) change).1.view
      by (inr before) =
          armed_view h cache old new change run.before
          (record { word = section.word; old = section.old; new = section.new }) run.acquire n some before

  -- at the start
  start_touch : next_access new h ≡ next_access old h
  start_touch =
      let some = run.some in
      let first = (survives h cache (record section { count = run.before + 1 }) old new
      (shorter old h cache section (run.before + 1) run (omega arith) (omega (arith, some))) change).0 in
      let within = first.some in
      first_touch h cache old new change run.before
      (record { word = section.word; old = section.old; new = section.new }) run.acquire first.before
      (omega (arith, within)) first.acquire

  same_touch : (n : ℕ) → n < section.count → next_access (alone new h n) h ≡ next_access (alone old h n) h
  same_touch zero less = start_touch
  same_touch (suc n) less =
      let left = alone old h (suc n) in
      same_access left (alone new h (suc n)) h (places_at h cache old new change (suc n))
      (same_view (suc n) (omega arith) (omega arith))
      (first_not (calls (next_insn left h)) (stops (next_execution left h))
      (goes_on_at old h cache section run (suc n) less))

  same_line : (n : ℕ) → n < section.count →
      written_line (footprint_of (alone new h n) h) ≡ written_line (footprint_of (alone old h n) h)
  same_line n less =
      ap written_line
      (running_footprint (alone new h n) h (new_run.running n (omega arith)) ∙ same_touch n less
      ∙ sym (running_footprint (alone old h n) h (run.running n (omega arith))))

  wrote_new : (line : ℕ) → WroteLine old h section.count line → WroteLine new h section.count line
  wrote_new line wrote =
      record { step = wrote.step; before = wrote.before; writes = same_line wrote.step wrote.before ∙ wrote.writes }

  wrote_old : (line : ℕ) → WroteLine new h section.count line → WroteLine old h section.count line
  wrote_old line wrote =
      record {
        step = wrote.step;
        before = wrote.before;
        writes = sym (same_line wrote.step wrote.before) ∙ wrote.writes;
      }

  at_base : (place : ℕ) → new.base + place ≡ old.base + place
  at_base place = ap (λ base. base + place) change.base

  -- a held byte lies on a line with a bit
  held_byte : (place byte : ℕ) → held hold (new.base + place) ≡ Some byte →
      slice_index (alone new h section.count).bytes place ≡ byte
  held_byte place byte is =
      let there : held hold (old.base + place) ≡ Some byte = ap (held hold) (sym (at_base place)) ∙ is in
      let bit = marked (line_number (old.base + place)) (holds_line_of_held hold (old.base + place) byte there) in
      shows.bytes place (change.bytes place (or_right (read_bit cache (line_number (old.base + place))) _ bit))
      ∙ keeps.held_byte place byte there

  -- any other byte is as it is committed: on a line with a bit nothing has changed, and
  -- one without has not been written
  unheld_byte : (place : ℕ) → held hold (new.base + place) ≡ None → IsOutsideWord section.word (new.base + place) →
      slice_index (alone new h section.count).bytes place ≡ slice_index new.bytes place
  unheld_byte place none outside = by (has_bit cache (line_number (old.base + place))) refl
    where
      by : (bit : Bool) → has_bit cache (line_number (old.base + place)) ≡ bit →
          slice_index (alone new h section.count).bytes place ≡ slice_index new.bytes place
      by true bit =
          let same = change.bytes place bit in
          shows.bytes place same
          ∙ keeps.unheld_byte place (ap (held hold) (sym (at_base place)) ∙ none)
          (subst (IsOutsideWord section.word) (at_base place) outside)
          ∙ sym same
      by false bit =
          unwritten_shown new h cache section new_run place
          (ap (λ address. write_bit cache (line_number address)) (at_base place)
          ∙ second_not (read_bit cache (line_number (old.base + place)))
          (write_bit cache (line_number (old.base + place))) bit)
          outside

  kept_new : KeepsRun new h section view hold
  kept_new = record {
    view = keeps.view ∙ sym shows.view;
    held_byte = held_byte;
    unheld_byte = unheld_byte;
    free = keeps.free;
    written =
        λ line.
        (λ wrote. (keeps.written line).0 (wrote_old line wrote), λ is. wrote_new line ((keeps.written line).1 is));
  }

pub kept_survive : KeptRunsSurvive
kept_survive h cache section old new view hold run change marked keeps =
    kept_new h cache section old new view hold run change marked keeps

-- the word of an armed section lies on a line with the read bit
kept_value : (h : ℕ) (cache : List (List Way)) (armed : Armed) (old new : FlatState) → IsArmedRun old h cache armed →
    IsChangeBeside h cache old new →
    loaded (byte_in new.base new.bytes) armed.word 4 ≡ loaded (byte_in old.base old.bytes) armed.word 4
kept_value h cache armed old new run change =
    let reads = (reserves old h armed.word run.reserve).reads in
    let bit = or_left (read_bit cache (line_number armed.word)) (write_bit cache (line_number armed.word)) run.read in
    let on : IsOnBit cache (next_touch old h) = rw reads bit in
    let agree = agree_there old new h cache change.base change.bytes on in
    loaded-same (byte_in new.base new.bytes) (byte_in old.base old.bytes) armed.word 4
    (λ k low high. (rw reads at agree) k (low, high))

pub kept_armed_survive : KeptArmedRunsSurvive
kept_armed_survive h cache armed old new value view run change keeps = record {
  view = keeps.view ∙ sym (armed_runs_survive h cache armed old new run change).1.view;
  found = keeps.found ∙ sym (kept_value h cache armed old new run change);
}
