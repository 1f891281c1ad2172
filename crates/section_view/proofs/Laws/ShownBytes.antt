-- the bytes that a section shows are those of its kept view and hold
use Rattle.std.proofs.Common.{◌≡◌, ◌≤◌, ◌<◌, ◌+◌, ◌-◌, ◌∙◌, ℕ, Bool, true, false, List, Option, None, Some, length}
use Rattle.std.proofs.Common.{arith, refl, ap, sym, nat_le, nat_lt}
use Rattle.std.specs.Prelude.{slice_index, unwrap_or}
use Rattle.std.proofs.lemmas.Bool.Decides.{nat_tests}
use Rattle.residency.specs.Residency.{Way}
use Rattle.core_step.specs.Port.{byte_of}
use Rattle.core_step.proofs.Laws.Bytes.{stored_inside, stored_outside}
use Rattle.elf_image.specs.Program.{code_word}
use Rattle.el_model.specs.State.{Section}
use Rattle.el_model.specs.Upcoming.{next_execution}
use Rattle.rv_alu.proofs.Laws.Executions.{executed_agree}
use Rattle.rv_alu.specs.Execution.{executed, perform}
use Rattle.rv_alu.specs.Footprint.{AgreeOn, Touches}
use Rattle.rv_alu.specs.declared.footprint.Access.{Access}
use Rattle.rv_alu.specs.declared.footprint.Access.TheVariants.{Nothing, Read, Write, Trap, Exit}
use Rattle.rv_alu.specs.declared.span.Span.{Span}
use Rattle.rv_alu.specs.declared.view.HartView.{HartView}
use Rattle.rv_flat.proofs.Laws.StepLaws.{one_line-touched}
use Rattle.rv_flat.specs.FlatState.{FlatState, room_of, span_of, view_of}
use Rattle.rv_flat.specs.Laws.{IsInOneLine, touched_by}
use Rattle.rv_flat.specs.Memory.{byte_in}
use Rattle.rv_flat.specs.Run.{alone}
use Rattle.rv_flat.specs.Step.{action_of, execution_of}
use Rattle.run_laws.proofs.Laws.Shown.{lock_at, puts_word, swap_stores, word_piece}
use Rattle.run_laws.specs.PrivateRun.{IsCoveredRun, IsOutsideWord}
use Rattle.section_view.proofs.Laws.Shapes.{comes_to}
use Rattle.rv_flat.proofs.Laws.PutBytes.{put_bytes-here}
use Rattle.rv_flat.proofs.Laws.Shapes.{keeps_alone}
use Rattle.section_view.specs.KeptRun.{KeepsRun, held_over, section_byte}
use Rattle.section_view.specs.Laws.{ComesTo, SectionsDoAsShown, SectionsShowTheirBytes}
use Rattle.write_hold.specs.Held.{Entry, held}

-- an address is of a word, or outside of it
pub data InWord (word address : ℕ) : Type 0 where
  Inside : word ≤ address → address < word + 4 → InWord word address
  Outside : IsOutsideWord word address → InWord word address

pub in_word : (word address : ℕ) → InWord word address
in_word word address = by (nat_le word address) (nat_lt address (word + 4)) refl refl
  where
    by : (low high : Bool) → nat_le word address ≡ low → nat_lt address (word + 4) ≡ high → InWord word address
    by true true low high = Inside (grind (arith, nat_tests)) (grind (arith, nat_tests))
    by true false low high = Outside (λ from below. grind (arith, nat_tests))
    by false high low is = Outside (λ from below. grind (arith, nat_tests))

-- the bytes under a section's do not matter in the lock word
pub same_under : (hold : List Entry) (word new address : ℕ) (left right : ℕ → ℕ) →
    (IsOutsideWord word address → left address ≡ right address) →
    section_byte hold word new left address ≡ section_byte hold word new right address
same_under hold word new address left right same = by (in_word word address)
  where
    by : InWord word address → section_byte hold word new left address ≡ section_byte hold word new right address
    by (Inside low high) =
        stored_inside (held_over hold left) word 4 new address low high
        ∙ sym (stored_inside (held_over hold right) word 4 new address low high)
    by (Outside out) =
        stored_outside (held_over hold left) word 4 new address out ∙ ap (unwrap_or (held hold address)) (same out)
        ∙ sym (stored_outside (held_over hold right) word 4 new address out)

-- the byte of a memory at a place
pub byte_at_place : (base : ℕ) (bytes : List ℕ) (place : ℕ) →
    byte_in base bytes (base + place) ≡ slice_index bytes place
byte_at_place base bytes place = let back : base + place - base ≡ place = omega arith in ap (slice_index bytes) back

module _ (committed : FlatState) (h : ℕ) (cache : List (List Way)) (section : Section) (view : HartView)
    (hold : List Entry)
    (run : IsCoveredRun committed h cache section) (keeps : KeepsRun committed h section view hold) where
  -- in the lock word
  pub new_value_at : (place : ℕ) → section.word ≤ committed.base + place → committed.base + place < section.word + 4 →
      slice_index (alone committed h section.count).bytes place ≡ byte_of section.new
      (committed.base + place - section.word)
  new_value_at place low high =
      let some = run.some in
      let there = alone committed h run.before in
      let shape = keeps_alone committed h run.before in
      let base : there.base ≡ committed.base = shape.base in
      let stores = swap_stores committed h cache section run in
      let piece = word_piece there h section.word section.new stores in
      let from : there.base ≤ section.word = piece.from_base in
      let end : section.word + 4 ≤ there.base + length there.bytes = piece.before_end in
      lock_at committed h cache section run (section.count - (run.before + 1)) section.count (omega (arith, some))
      (omega arith) place low high
      ∙ ap (λ bytes. slice_index bytes place)
      (puts_word there h section.word section.new (run.running run.before (omega (arith, some))) stores)
      ∙ put_bytes-here there.bytes (section.word - there.base) 4 section.new
      (committed.base + place - section.word) place
      (omega (arith, from, end)) (omega arith) (omega (arith, base, from))

  -- outside of it
  pub held_or_committed : (place : ℕ) → IsOutsideWord section.word (committed.base + place) →
      slice_index (alone committed h section.count).bytes place ≡ unwrap_or (held hold (committed.base + place))
      (slice_index committed.bytes place)
  held_or_committed place out = by (held hold (committed.base + place)) refl
    where
      by : (byte : Option ℕ) → held hold (committed.base + place) ≡ byte →
          slice_index (alone committed h section.count).bytes place ≡ unwrap_or byte (slice_index committed.bytes place)
      by None none = keeps.unheld_byte place none out
      by (Some byte) is = keeps.held_byte place byte is

  pub shows_byte : (place : ℕ) → slice_index (alone committed h section.count).bytes place
      ≡ section_byte hold section.word section.new (byte_in committed.base committed.bytes) (committed.base + place)
  shows_byte place = by (in_word section.word (committed.base + place))
    where
      under : ℕ → ℕ
      under = byte_in committed.base committed.bytes

      by : InWord section.word (committed.base + place) → slice_index (alone committed h section.count).bytes place
          ≡ section_byte hold section.word section.new (byte_in committed.base committed.bytes) (committed.base + place)
      by (Inside low high) =
          new_value_at place low high
          ∙ sym (stored_inside (held_over hold under) section.word 4 section.new (committed.base + place) low high)
      by (Outside out) =
          held_or_committed place out
          ∙ ap (unwrap_or (held hold (committed.base + place)))
          (sym (byte_at_place committed.base committed.bytes place))
          ∙ sym (stored_outside (held_over hold under) section.word 4 section.new (committed.base + place) out)

pub shows_bytes : SectionsShowTheirBytes
shows_bytes committed h cache section view hold run keeps place within =
    shows_byte committed h cache section view hold run keeps place

-- what is touched lies in memory
touched_above : (span : Span) (access : Access) (address : ℕ) → IsInOneLine span access → Touches access address →
    span.base ≤ address
touched_above span (Read from len) address piece there =
    let base : span.base ≤ from = piece.from_base in let low : from ≤ address = there.0 in omega arith
touched_above span (Write from len) address piece there =
    let base : span.base ≤ from = piece.from_base in let low : from ≤ address = there.0 in omega arith
touched_above span Nothing address piece there = absurd there
touched_above span (Trap cause) address piece there = absurd there
touched_above span (Exit code) address piece there = absurd there

-- an action that is carried out over these bytes is the execution of the instruction
pub executed_is : (state : FlatState) (view : HartView) (byte : ℕ → ℕ) →
    executed (code_word state.code view.pc) view (span_of state) (room_of state) byte
    ≡ perform (action_of state view) view byte
unfolding executed
executed_is state view byte = refl

-- so what comes next does what its action does in what is committed, over bytes that agree where it touches memory
pub does_alike : (committed shown : FlatState) (h : ℕ) (view : HartView) (byte : ℕ → ℕ) → view ≡ view_of shown h →
    ComesTo committed shown h view → AgreeOn (touched_by committed view) byte (byte_in shown.base shown.bytes) →
    perform (action_of committed view) view byte ≡ next_execution shown h
does_alike committed shown h view byte is comes agree =
    sym (executed_is committed view byte)
    ∙ executed_agree (code_word committed.code view.pc) view (span_of committed) (room_of committed) byte
    (byte_in shown.base shown.bytes) agree
    ∙ executed_is committed view (byte_in shown.base shown.bytes)
    ∙ ap (λ action. perform action view (byte_in shown.base shown.bytes)) (sym comes.action)
    ∙ sym (executed_is shown view (byte_in shown.base shown.bytes))
    ∙ ap (execution_of shown) is

pub do_as_shown : SectionsDoAsShown
do_as_shown committed h cache section view hold under run keeps beside =
    does_alike committed (alone committed h section.count) h view
    (section_byte hold section.word section.new under) keeps.view
    (comes_to committed h cache section view hold run keeps) agree
  where
    agree : AgreeOn (touched_by committed view) (section_byte hold section.word section.new under)
        (byte_in (alone committed h section.count).base (alone committed h section.count).bytes)
    agree address there =
        let bytes = (alone committed h section.count).bytes in
        let above : committed.base ≤ address = touched_above (span_of committed) (touched_by committed view) address
        (one_line-touched committed view) there in
        let back : committed.base + (address - committed.base) ≡ address = omega arith in
        same_under hold section.word section.new address under (byte_in committed.base committed.bytes)
        (beside address there)
        ∙ ap (section_byte hold section.word section.new (byte_in committed.base committed.bytes)) (sym back)
        ∙ sym (shows_byte committed h cache section view hold run keeps (address - committed.base))
        ∙ ap (λ base. byte_in base bytes address) (sym (keeps_alone committed h section.count).base)
