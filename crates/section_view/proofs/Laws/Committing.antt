-- a section takes effect at its release
use Rattle.std.proofs.Common.{◌≡◌, ◌≢◌, ◌≤◌, ◌+◌, ◌-◌, ◌%◌, ◌^◌, ◌∙◌, ◌==◌, ℕ, true, List, Some, length, arith, ap, sym}
use Rattle.std.proofs.Common.{subst, inl, inr, ◌⊎◌}
use Rattle.std.specs.Prelude.{slice_index, unwrap_or}
use Rattle.std.proofs.lemmas.Option.{same_Some}
use Rattle.std.proofs.lemmas.Bool.{or_left}
use Rattle.residency.specs.Residency.{Way}
use Rattle.el_base.specs.Line.{line_number}
use Rattle.el_base.proofs.Laws.Tests.{own_test}
use Rattle.elf_image.specs.Program.{code_word}
use Rattle.el_model.specs.State.{Section}
use Rattle.el_model.specs.Upcoming.{is_release, next_execution}
use Rattle.rv_alu.specs.Execution.{insn_at, view_after}
use Rattle.rv_alu.specs.Footprint.{Touches}
use Rattle.rv_alu.specs.Loaded.{loaded}
use Rattle.rv_alu.specs.declared.view.HartStatus.TheVariants.{Running}
use Rattle.rv_alu.specs.declared.view.HartView.{HartView}
use Rattle.rv_flat.proofs.Laws.RunsAfter.{runs-exists}
use Rattle.rv_flat.proofs.Laws.StepLaws.{own_view}
use Rattle.rv_flat.specs.FlatState.{FlatState, status_of, view_of}
use Rattle.rv_flat.specs.Laws.{footprint_of, touched_by, written_line}
use Rattle.rv_flat.specs.Memory.{AreBytes, byte_in, put_bytes}
use Rattle.rv_flat.specs.Run.{alone}
use Rattle.rv_flat.specs.Step.{flat}
use Rattle.run_laws.proofs.Laws.Restored.{put_back}
use Rattle.run_laws.proofs.Laws.Shown.{keeps_outside, puts_word, shows_its_own, word_piece}
use Rattle.run_laws.proofs.Laws.Alike.{alone_more}
use Rattle.run_laws.proofs.Laws.Reserving.{acquires_at}
use Rattle.run_laws.proofs.Laws.WordStores.{StoresWord, releases}
use Rattle.run_laws.specs.PrivateRun.{IsCoveredRun, IsOutsideWord}
use Rattle.section_view.proofs.Laws.Beginning.{word_written}
use Rattle.section_view.proofs.Laws.GoingOn.{written_before, written_since}
use Rattle.section_view.proofs.Lines.{line_bytes, same_line}
use Rattle.section_view.proofs.OthersViews.{has_written, others_after, same_lines, unreserved_same}
use Rattle.section_view.proofs.Laws.Releasing.{release_is}
use Rattle.section_view.proofs.Laws.Shapes.{comes_to, output_shown, quiet_step}
use Rattle.rv_flat.proofs.Laws.Shapes.{keeps_alone}
use Rattle.section_view.proofs.Laws.ShownBytes.{InWord, Inside, Outside, do_as_shown, held_or_committed, in_word}
use Rattle.section_view.specs.KeptRun.{KeepsRun, WroteLine, is_written, section_execution}
use Rattle.section_view.specs.Laws.{AgreeBeside, ReleasedViewsAreTold, SectionsCommit}
use Rattle.section_view.specs.Release.{released_view, view_unreserved_on}
use Rattle.write_hold.specs.Held.{Entry, held, holds}

module _ (committed : FlatState) (h : ℕ) (cache : List (List Way)) (section : Section) (view : HartView)
    (hold : List Entry) (under : ℕ → ℕ)
    (run : IsCoveredRun committed h cache section) (keeps : KeepsRun committed h section view hold)
    (release : is_release (alone committed h section.count) h section.word section.old ≡ true) where
  stores : StoresWord (alone committed h section.count) h section.word section.old
  stores = releases (alone committed h section.count) h section.word section.old release

  runs : status_of (alone committed h section.count) h ≡ Running
  runs = run.running section.count (omega arith)

  -- the release touches the lock word alone
  beside : AgreeBeside committed section.word (touched_by committed view) under
  beside address there outside =
      let touches = subst (λ access. Touches access address)
      (sym (comes_to committed h cache section view hold run keeps).access ∙ stores.writes) there in
      absurd (outside touches.0 touches.1)

  does : section_execution committed section view hold under ≡ next_execution (alone committed h section.count) h
  does = do_as_shown committed h cache section view hold under run keeps beside

  last : alone committed h (section.count + 1) ≡ flat (alone committed h section.count) h
  last = alone_more committed h section.count

  own : view_of (alone committed h (section.count + 1)) h
      ≡ view_after (section_execution committed section view hold under) view
  own =
      let shown = alone committed h section.count in
      ap (λ state. view_of state h) last ∙ own_view shown h (runs-exists shown h runs) runs
      ∙ ap (view_after (next_execution shown h)) (sym keeps.view)
      ∙ ap (λ execution. view_after execution view) (sym does)

  told : view_after (section_execution committed section view hold under) view
      ≡ released_view (insn_at (code_word committed.code view.pc)) view (section.new % 2 ^ 32)
  told =
      let shown = alone committed h section.count in
      let found = loaded (byte_in shown.base shown.bytes) section.word 4 in
      let lock = (shows_its_own committed h cache section run).lock in
      ap (λ execution. view_after execution view) does ∙ ap (view_after (next_execution shown h)) keeps.view
      ∙ (release_is shown h section.word section.old release).view
      ∙ ap (λ insn. released_view insn (view_of shown h) found)
      (comes_to committed h cache section view hold run keeps).insn
      ∙ ap (λ seen. released_view (insn_at (code_word committed.code view.pc)) seen found) (sym keeps.view)
      ∙ ap (released_view (insn_at (code_word committed.code view.pc)) view)
      (ap (λ base. loaded (byte_in base shown.bytes) section.word 4) (keeps_alone committed h section.count).base
      ∙ lock)

  output : (alone committed h (section.count + 1)).output ≡ committed.output
  output =
      ap (λ state. state.output) last ∙ quiet_step (alone committed h section.count) h runs stores.goes_on
      ∙ output_shown committed h cache section run

  -- the lines that were written
  wrote : (line : ℕ) → WroteLine committed h (section.count + 1) line → is_written section.word hold line ≡ true
  wrote line is = by (written_since committed h section.count line is)
    where
      by : (written_line (footprint_of (alone committed h section.count) h) ≡ Some line)
          ⊎ WroteLine committed h section.count line → is_written section.word hold line ≡ true
      by (inl is) =
          let same : line_number section.word ≡ line =
          same_Some _ line
          (sym (word_written (alone committed h section.count) h section.word section.old runs stores) ∙ is) in
          or_left (line == line_number section.word) (holds hold line)
          (subst (λ line. (line == line_number section.word) ≡ true) same (own_test _))
      by (inr before) = (keeps.written line).0 before

  wrote_it : (line : ℕ) → is_written section.word hold line ≡ true → WroteLine committed h (section.count + 1) line
  wrote_it line is = written_before committed h section.count line ((keeps.written line).1 is)

  others : (g : ℕ) → g ≢ h → view_of (alone committed h (section.count + 1)) g ≡ view_unreserved_on
      (is_written section.word hold) (view_of committed g)
  others g apart =
      others_after committed h g (section.count + 1) apart
      ∙ unreserved_same (has_written committed h (section.count + 1)) (is_written section.word hold)
      (λ line. same_lines committed h (section.count + 1) line (is_written section.word hold line) (wrote line)
      (wrote_it line)) (view_of committed g)

  -- the bytes
  module _ (are_bytes : AreBytes committed.bytes) where
    bytes : (place : ℕ) → slice_index (alone committed h (section.count + 1)).bytes place
        ≡ unwrap_or (held hold (committed.base + place)) (slice_index committed.bytes place)
    bytes place = by (in_word section.word (committed.base + place))
      where
        shown : FlatState
        shown = alone committed h section.count

        by : InWord section.word (committed.base + place) →
            slice_index (alone committed h (section.count + 1)).bytes place
            ≡ unwrap_or (held hold (committed.base + place)) (slice_index committed.bytes place)
        by (Inside low high) =
            let shape = keeps_alone committed h section.count in
            let base : shown.base ≡ committed.base = shape.base in
            let size : length shown.bytes ≡ length committed.bytes = shape.length_of_bytes in
            let piece = word_piece shown h section.word section.old stores in
            let from : shown.base ≤ section.word = piece.from_base in
            let end : section.word + 4 ≤ shown.base + length shown.bytes = piece.before_end in
            ap (λ state. slice_index state.bytes place) last
            ∙ ap (λ bytes. slice_index bytes place) (puts_word shown h section.word section.old runs stores)
            ∙ ap (λ value. slice_index (put_bytes shown.bytes (section.word - shown.base) 4 value) place)
            (acquires_at committed h cache run.before _ run.acquire).old
            ∙ put_back shown.bytes committed.bytes committed.base section.word (section.word - shown.base) 4 place
            (omega arith) are_bytes size
            (omega arith) (omega arith) (omega arith)
            ∙ ap (λ byte. unwrap_or byte (slice_index committed.bytes place))
            (sym (keeps.free (committed.base + place) low high))
        by (Outside out) =
            ap (λ state. slice_index state.bytes place) last
            ∙ keeps_outside shown h section.word section.old place runs stores
            (subst (λ base. IsOutsideWord section.word (base + place))
            (sym (keeps_alone committed h section.count).base) out)
            ∙ held_or_committed committed h cache section view hold run keeps place out

pub commits : SectionsCommit
commits committed h cache section view hold under are_bytes run keeps release =
    let done = alone committed h (section.count + 1) in
    let shape = keeps_alone committed h (section.count + 1) in
    let each = bytes committed h cache section view hold under run keeps release are_bytes in
    record {
      own = own committed h cache section view hold under run keeps release;
      others = others committed h cache section view hold under run keeps release;
      bytes = each;
      lines = line_bytes committed done hold shape.base shape.length_of_bytes each;
      same = same_line committed done hold shape.base shape.length_of_bytes each;
      output = output committed h cache section view hold under run keeps release;
      base = shape.base;
      code = shape.code;
      size = shape.length_of_bytes;
      harts = shape.harts;
    }

pub released_view_told : ReleasedViewsAreTold
released_view_told committed h cache section view hold under run keeps release =
    told committed h cache section view hold under run keeps release
