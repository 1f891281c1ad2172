-- what a covered run shows of memory: the new value in the lock word, and outside of it and of the
-- written lines what is committed
use Rattle.std.proofs.Common.{◌≡◌, ◌≢◌, ◌≤◌, ◌<◌, ◌+◌, ◌-◌, ◌%◌, ◌^◌, ◌∙◌, ℕ, zero, suc, false, List, Option, None}
use Rattle.std.proofs.Common.{Some, length, arith, refl, ap, sym, subst}
use Rattle.std.specs.Prelude.{MatchOption, slice_index}
use Rattle.std.proofs.lemmas.Bool.Decides.{nat_tests}
use Rattle.residency.specs.Cache.{write_bit}
use Rattle.residency.specs.Residency.{Way}
use Rattle.el_base.specs.Line.{line_number}
use Rattle.el_base.specs.declared.outcomes.Need.TheVariants as needs
use Rattle.el_base.proofs.Laws.Cases.{not_both}
use Rattle.el_model.specs.State.{Section}
use Rattle.el_model.specs.Upcoming.{Touch, next_access, next_store, next_touch, overlaps, touch_of}
use Rattle.rv_alu.proofs.Laws.Executions.{loaded-same}
use Rattle.rv_alu.specs.Execution.{Store}
use Rattle.rv_alu.specs.Footprint.{IsNoWrite, IsPiece}
use Rattle.rv_alu.specs.Loaded.{loaded}
use Rattle.rv_alu.specs.declared.footprint.Access.{Access}
use Rattle.rv_alu.specs.declared.footprint.Access.TheVariants.{Nothing, Read, Write, Trap, Exit}
use Rattle.rv_alu.specs.declared.view.HartStatus.TheVariants.{Running}
use Rattle.rv_flat.proofs.Laws.PutBytes.{loaded-put_bytes}
use Rattle.rv_flat.proofs.Laws.StepLaws.{one_line-touched, running, within, writes_in_footprint, writes_on_line}
use Rattle.rv_flat.specs.FlatState.{FlatState, span_of, status_of, view_of}
use Rattle.rv_flat.specs.Laws.{IsInOneLine, Writes, footprint_of, touched_in, written_line}
use Rattle.rv_flat.specs.Memory.{byte_in, put_bytes}
use Rattle.rv_flat.specs.Run.{alone}
use Rattle.rv_flat.specs.Step.{flat, stored_by}
use Rattle.run_laws.proofs.Laws.Alike.{alone_base, alone_more}
use Rattle.run_laws.proofs.Laws.Reserving.{AcquiresAt, acquires_at}
use Rattle.run_laws.proofs.Laws.WordStores.{StoresWord}
use Rattle.run_laws.specs.Laws.{CoveredRunsShowTheirOwn}
use Rattle.run_laws.specs.PrivateRun.{HasItsBit, IsCoveredRun, IsOutsideWord}

pub running_footprint : (state : FlatState) (h : ℕ) → status_of state h ≡ Running →
    footprint_of state h ≡ next_access state h
running_footprint state h runs = ap (touched_in state (view_of state h)) runs

-- a step changes no byte on a line that it does not write
abbrev write_to : ℕ → Touch
write_to line = record { line = line; need = needs.Write }

written_touch : (access : Access) (line : ℕ) → written_line access ≡ Some line → touch_of access ≡ Some (write_to line)
written_touch (Write from len) line is = let same : line_number from ≡ line = cc in
    ap (λ line. Some (write_to line)) same
written_touch (Read from len) line is = absurd (cc)
written_touch Nothing line is = absurd (cc)
written_touch (Trap cause) line is = absurd (cc)
written_touch (Exit code) line is = absurd (cc)

pub keeps_line : (state : FlatState) (h place : ℕ) → status_of state h ≡ Running →
    next_touch state h ≢ Some (record { line = line_number (state.base + place); need = needs.Write }) →
    slice_index (flat state h).bytes place ≡ slice_index state.bytes place
keeps_line state h place runs apart =
    writes_on_line state h place
    (λ written.
    apart (written_touch (next_access state h) _
    (ap written_line (sym (running_footprint state h runs)) ∙ written)))

-- a store of a word changes no byte outside of it
pub keeps_outside : (state : FlatState) (h word value place : ℕ) → status_of state h ≡ Running →
    StoresWord state h word value → IsOutsideWord word (state.base + place) →
    slice_index (flat state h).bytes place ≡ slice_index state.bytes place
keeps_outside state h word value place runs stores outside =
    writes_in_footprint state h place
    (λ there.
    let written =
    subst (λ access. Writes access (state.base + place)) (running_footprint state h runs ∙ stores.writes) there in
    outside written.0 written.1)

-- and puts its value there
pub puts_word : (state : FlatState) (h word value : ℕ) → status_of state h ≡ Running → StoresWord state h word value →
    (flat state h).bytes ≡ put_bytes state.bytes (word - state.base) 4 value
puts_word state h word value runs stores =
    ap (λ new. new.bytes) (running state h runs) ∙ ap (λ store. stored_by store state.base state.bytes) stores.stores

pub word_piece : (state : FlatState) (h word value : ℕ) → StoresWord state h word value → IsPiece (span_of state) word 4
word_piece state h word value stores =
    subst (IsInOneLine (span_of state)) stores.writes (one_line-touched state (view_of state h))

-- a step that does not store to a byte of a word changes none of its bytes
not_overlapping : (word address : ℕ) (access : Access) (store : Option Store) →
    MatchOption store (IsNoWrite access) (λ store. access ≡ Write store.address store.len) →
    overlaps word store ≡ false → word ≤ address → address < word + 4 → Writes access address → ⊥
not_overlapping word address (Write from len) None none apart low high there = none
not_overlapping word address (Read from len) None none apart low high there = there
not_overlapping word address Nothing None none apart low high there = there
not_overlapping word address (Trap cause) None none apart low high there = there
not_overlapping word address (Exit code) None none apart low high there = there
not_overlapping word address access (Some store) is apart low high there =
    let written = subst (λ access. Writes access address) is there in
    let above : store.address ≤ address = written.0 in
    let below : address < store.address + store.len = written.1 in
    grind (arith, nat_tests)

keeps_word : (state : FlatState) (h word place : ℕ) → status_of state h ≡ Running →
    overlaps word (next_store state h) ≡ false → word ≤ state.base + place → state.base + place < word + 4 →
    slice_index (flat state h).bytes place ≡ slice_index state.bytes place
keeps_word state h word place runs apart low high =
    writes_in_footprint state h place
    (λ there.
    not_overlapping word (state.base + place) (next_access state h) (next_store state h)
    (within state (view_of state h)).store apart low high
    (subst (λ access. Writes access (state.base + place)) (running_footprint state h runs) there))

module _ (committed : FlatState) (h : ℕ) (cache : List (List Way)) (section : Section)
    (run : IsCoveredRun committed h cache section) where
  acquired : AcquiresAt committed h run.before (record { word = section.word; old = section.old; new = section.new })
  acquired = acquires_at committed h cache run.before _ run.acquire

  pub swap_stores : StoresWord (alone committed h run.before) h section.word section.new
  swap_stores = acquired.stores

  -- the acquire is the first that stores
  before_it : (place : ℕ) → slice_index (alone committed h run.before).bytes place ≡ slice_index committed.bytes place
  before_it place = ap (λ bytes. slice_index bytes place) acquired.memory

  runs_there : status_of (alone committed h run.before) h ≡ Running
  runs_there = let some = run.some in run.running run.before (omega (arith, some))

  unwritten : (touch : Option Touch) → HasItsBit cache touch → (line : ℕ) → write_bit cache line ≡ false →
      touch ≢ Some (write_to line)
  unwritten None bit line bare is = absurd (cc)
  unwritten (Some touch) bit line bare is = not_both (subst (HasItsBit cache) is bit) bare

  -- outside of the written lines and of the lock word
  unwritten_at : (k n : ℕ) → n ≡ run.before + k + 1 → n ≤ section.count → (place : ℕ) →
      write_bit cache (line_number (committed.base + place)) ≡ false →
      IsOutsideWord section.word (committed.base + place) →
      slice_index (alone committed h n).bytes place ≡ slice_index committed.bytes place
  unwritten_at zero n is within place bare outside =
      let one : n ≡ run.before + 1 = omega (arith, is) in
      ap (λ m. slice_index (alone committed h m).bytes place) one
      ∙ ap (λ state. slice_index state.bytes place) (alone_more committed h run.before)
      ∙ keeps_outside (alone committed h run.before) h section.word section.new place runs_there swap_stores
      (subst (λ base. IsOutsideWord section.word (base + place)) (sym (alone_base committed h run.before)) outside)
      ∙ before_it place
  unwritten_at (suc k) n is within place bare outside =
      let more : n ≡ run.before + k + 1 + 1 = omega (arith, is) in
      let last : ℕ = run.before + k + 1 in
      let step = run.inside (run.before + k + 1) (omega arith) (omega (arith, is, within)) in
      ap (λ m. slice_index (alone committed h m).bytes place) more
      ∙ ap (λ state. slice_index state.bytes place) (alone_more committed h (run.before + k + 1))
      ∙ keeps_line (alone committed h (run.before + k + 1)) h place
      (run.running (run.before + k + 1) (omega (arith, is, within)))
      (unwritten (next_touch (alone committed h (run.before + k + 1)) h) step.bit _
      (ap (λ base. write_bit cache (line_number (base + place))) (alone_base committed h (run.before + k + 1)) ∙ bare))
      ∙ unwritten_at k (run.before + k + 1) refl (omega (arith, is, within)) place bare outside

  pub unwritten_shown : (place : ℕ) → write_bit cache (line_number (committed.base + place)) ≡ false →
      IsOutsideWord section.word (committed.base + place) →
      slice_index (alone committed h section.count).bytes place ≡ slice_index committed.bytes place
  unwritten_shown place bare outside =
      let some = run.some in
      unwritten_at (section.count - (run.before + 1)) section.count (omega (arith, some)) (omega arith)
      place bare outside

  -- in the lock word
  pub lock_at : (k n : ℕ) → n ≡ run.before + k + 1 → n ≤ section.count → (place : ℕ) →
      section.word ≤ committed.base + place → committed.base + place < section.word + 4 →
      slice_index (alone committed h n).bytes place ≡ slice_index (flat (alone committed h run.before) h).bytes place
  lock_at zero n is within place low high =
      let one : n ≡ run.before + 1 = omega (arith, is) in
      ap (λ m. slice_index (alone committed h m).bytes place) one
      ∙ ap (λ state. slice_index state.bytes place) (alone_more committed h run.before)
  lock_at (suc k) n is within place low high =
      let more : n ≡ run.before + k + 1 + 1 = omega (arith, is) in
      let base = alone_base committed h (run.before + k + 1) in
      let step = run.inside (run.before + k + 1) (omega arith) (omega (arith, is, within)) in
      ap (λ m. slice_index (alone committed h m).bytes place) more
      ∙ ap (λ state. slice_index state.bytes place) (alone_more committed h (run.before + k + 1))
      ∙ keeps_word (alone committed h (run.before + k + 1)) h section.word place
      (run.running (run.before + k + 1) (omega (arith, is, within)))
      step.unmixed (omega (arith, base, low)) (omega (arith, base, high))
      ∙ lock_at k (run.before + k + 1) refl (omega (arith, is, within)) place low high

  pub word_there : IsPiece (span_of committed) section.word 4
  word_there =
      subst (λ bytes. IsPiece (record { base = committed.base; end = committed.base + length bytes }) section.word 4)
      acquired.memory
      (subst (λ base. IsPiece (record { base = base; end = base + length (alone committed h run.before).bytes })
      section.word 4)
      (alone_base committed h run.before)
      (word_piece (alone committed h run.before) h section.word section.new swap_stores))

  lock_shown : loaded (byte_in committed.base (alone committed h section.count).bytes) section.word 4
      ≡ section.new % 2 ^ 32
  lock_shown =
      let some = run.some in
      let piece = word_there in
      let base : committed.base ≤ section.word = piece.from_base in
      let end : section.word + 4 ≤ committed.base + length committed.bytes = piece.before_end in
      let there = alone committed h run.before in
      let same : length there.bytes ≡ length committed.bytes = ap length acquired.memory in
      loaded-same (byte_in committed.base (alone committed h section.count).bytes)
      (byte_in committed.base (flat there h).bytes) section.word 4
      (λ address low high.
      lock_at (section.count - (run.before + 1)) section.count (omega (arith, some)) (omega arith)
      (address - committed.base) (omega arith) (omega arith))
      ∙ ap (λ bytes. loaded (byte_in committed.base bytes) section.word 4)
      (puts_word there h section.word section.new runs_there swap_stores
      ∙ ap (λ base. put_bytes there.bytes (section.word - base) 4 section.new) (alone_base committed h run.before))
      ∙ loaded-put_bytes committed.base there.bytes section.word (section.word - committed.base) 4 section.new
      (omega arith) (omega (arith, same))

pub shows_its_own : CoveredRunsShowTheirOwn
shows_its_own committed h cache section run = record {
  lock = lock_shown committed h cache section run;
  others = unwritten_shown committed h cache section run;
}
