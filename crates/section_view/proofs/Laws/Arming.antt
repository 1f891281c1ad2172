-- the view and the value that are kept of an armed section, from its LR to its SC
use Rattle.std.proofs.Common.{◌≡◌, ◌<◌, ◌+◌, ◌∙◌, ◌||◌, ◌==◌, ℕ, false, true, List, [], None, Some, arith, ap, refl}
use Rattle.std.proofs.Common.{sym, subst}
use Rattle.std.proofs.Common.{inl, inr, ◌⊎◌}
use Rattle.std.specs.Prelude.{slice_index}
use Rattle.std.proofs.lemmas.Option.{same_Some}
use Rattle.residency.specs.Residency.{Way}
use Rattle.el_base.specs.Line.{line_number}
use Rattle.el_base.proofs.Laws.Cases.{none_some}
use Rattle.el_base.proofs.Laws.Tests.{number_of_test, own_test}
use Rattle.el_model.specs.State.{Armed}
use Rattle.el_model.specs.Upcoming.{Swap, next_access, next_conditional, touch_of}
use Rattle.rv_alu.specs.Execution.{perform, put_of, release_of, view_after}
use Rattle.rv_alu.specs.Footprint.{AgreeOn, Touches}
use Rattle.rv_alu.specs.Loaded.{loaded}
use Rattle.rv_alu.specs.declared.action.Action.TheVariants as actions
use Rattle.rv_alu.specs.declared.footprint.Access.{Access}
use Rattle.rv_alu.specs.declared.footprint.Access.TheVariants.{Nothing, Read, Write, Trap, Exit}
use Rattle.rv_alu.specs.declared.view.HartStatus.TheVariants.{Running}
use Rattle.rv_alu.specs.declared.view.HartView.{HartView}
use Rattle.rv_flat.proofs.Laws.RunsAfter.{runs-exists}
use Rattle.rv_flat.proofs.Laws.StepLaws.{own_view}
use Rattle.rv_flat.specs.FlatState.{FlatState, status_of, view_of}
use Rattle.rv_flat.specs.Laws.{footprint_of, touched_by, written_line}
use Rattle.rv_flat.specs.Memory.{byte_in}
use Rattle.rv_flat.specs.Run.{alone}
use Rattle.rv_flat.specs.Step.{action_of}
use Rattle.rv_word.specs.declared.reg.Reg.{Reg}
use Rattle.run_laws.proofs.Laws.Alike.{alone_base, alone_more}
use Rattle.run_laws.proofs.Laws.Reserving.{armed_memory, completes_by, quiet_of, silent_at}
use Rattle.run_laws.proofs.Laws.Shown.{keeps_outside, running_footprint}
use Rattle.run_laws.proofs.Laws.WordStores.{StoresWord}
use Rattle.run_laws.specs.PrivateRun.{IsArmedRun, IsOutsideWord}
use Rattle.section_view.proofs.Laws.Beginning.{next_is, or_cases, word_written}
use Rattle.section_view.proofs.Laws.GoingOn.{view_after_step, written_last, written_since, written_store}
use Rattle.section_view.proofs.Laws.Shapes.{armed_comes_to}
use Rattle.section_view.proofs.Laws.ShownBytes.{does_alike}
use Rattle.section_view.specs.ArmedLaws.{ArmedSectionsBegin, ArmedSectionsElide, ArmedSectionsGoOn, IsElided}
use Rattle.section_view.specs.KeptRun.{KeepsArmed, WroteLine, is_written}
use Rattle.write_hold.proofs.Laws.LookUps.{held_nothing}
use Rattle.write_hold.specs.Held.{holds}

pub arms : ArmedSectionsBegin
arms committed h word old rd runs acts found = record {
  view =
      ap (λ value. record (put_of view rd.number value) { reserved = Some word }) found
      ∙ ap (λ execution. view_after execution view) (sym (next_is committed h (actions.LoadReserved rd word) acts))
      ∙ sym (own_view committed h (runs-exists committed h runs) runs);
  found = found;
}
  where
    view : HartView
    view = view_of committed h

-- what touches no line touches no address
untouched : (access : Access) (address : ℕ) → touch_of access ≡ None → Touches access address → ⊥
untouched (Read from len) address none there = none_some (sym none)
untouched (Write from len) address none there = none_some (sym none)
untouched Nothing address none there = there
untouched (Trap cause) address none there = there
untouched (Exit code) address none there = there

module _ (committed : FlatState) (h : ℕ) (cache : List (List Way)) (armed : Armed) (old : ℕ) (view : HartView)
    (run : IsArmedRun committed h cache armed) (keeps : KeepsArmed committed h armed old view) where
  runs : status_of (alone committed h armed.count) h ≡ Running
  runs = run.running armed.count (omega arith)

  -- no instruction of an armed run writes a line
  wrote_none : (n : ℕ) → n < armed.count → written_line (footprint_of (alone committed h n) h) ≡ None
  wrote_none n less =
      let shown = alone committed h n in
      ap written_line (running_footprint shown h (run.running n (omega (arith, less))))
      ∙ written_store (next_access shown h) (silent_at committed h cache armed run n less).writes_none

  -- the SC that comes next
  module _ (swap : Swap) (rd : Reg) (address value : ℕ)
      (is : next_conditional (alone committed h armed.count) h ≡ Some swap)
      (same : swap.word ≡ armed.word)
      (acts : action_of committed view ≡ actions.StoreConditional rd address value) where
    stores : StoresWord (alone committed h armed.count) h armed.word swap.new
    stores =
        subst (λ word. StoresWord (alone committed h armed.count) h word swap.new) same
        (completes_by (alone committed h armed.count) h swap is).stores

    found : swap.old ≡ old
    found =
        let shown = alone committed h armed.count in
        (completes_by shown h swap is).old
        ∙ ap (λ word. loaded (byte_in shown.base shown.bytes) word 4) same
        ∙ ap (λ base. loaded (byte_in base shown.bytes) armed.word 4) (alone_base committed h armed.count)
        ∙ ap (λ bytes. loaded (byte_in committed.base bytes) armed.word 4)
        (armed_memory committed h cache armed run armed.count (omega arith))
        ∙ sym keeps.found

    elided_view : release_of (put_of view rd.number 0) ≡ view_of (alone committed h (armed.count + 1)) h
    elided_view =
        let shown = alone committed h armed.count in
        let action =
        ap (action_of shown) (sym keeps.view) ∙ (armed_comes_to committed h cache armed old view run keeps).action
        ∙ acts in
        ap (λ view. release_of (put_of view rd.number 0)) keeps.view
        ∙ ap (λ execution. view_after execution (view_of shown h))
        (sym (next_is shown h (actions.StoreConditional rd address value) action))
        ∙ view_after_step committed h armed.count (view_of shown h) refl runs

    unheld_byte : (place : ℕ) → IsOutsideWord armed.word (committed.base + place) →
        slice_index (alone committed h (armed.count + 1)).bytes place ≡ slice_index committed.bytes place
    unheld_byte place outside =
        let shown = alone committed h armed.count in
        ap (λ state. slice_index state.bytes place) (alone_more committed h armed.count)
        ∙ keeps_outside shown h armed.word swap.new place runs stores
        (subst (λ base. IsOutsideWord armed.word (base + place)) (sym (alone_base committed h armed.count)) outside)
        ∙ ap (λ bytes. slice_index bytes place) (armed_memory committed h cache armed run armed.count (omega arith))

    only_last : (line : ℕ) → WroteLine committed h (armed.count + 1) line → is_written armed.word [] line ≡ true
    only_last line wrote = by (written_since committed h armed.count line wrote)
      where
        by : (written_line (footprint_of (alone committed h armed.count) h) ≡ Some line)
            ⊎ WroteLine committed h armed.count line → is_written armed.word [] line ≡ true
        by (inl last) =
            let there : line_number armed.word ≡ line =
            same_Some _ line
            (sym (word_written (alone committed h armed.count) h armed.word swap.new runs stores) ∙ last) in
            subst (λ line. is_written armed.word [] line ≡ true) there
            (ap (λ test. test || holds [] (line_number armed.word)) (own_test (line_number armed.word)))
        by (inr before) = none_some (sym (wrote_none before.step before.before) ∙ before.writes)

    lock_last : (line : ℕ) → is_written armed.word [] line ≡ true → WroteLine committed h (armed.count + 1) line
    lock_last line is =
        or_cases (line == line_number armed.word) false is
        (λ own.
        written_last committed h armed.count line
        (word_written (alone committed h armed.count) h armed.word swap.new runs stores
        ∙ ap Some (sym (number_of_test line (line_number armed.word) own))))
        (λ wrong. absurd (cc))

    is_elided : IsElided committed h armed old swap (release_of (put_of view rd.number 0))
    is_elided = record {
      found = found;
      keeps = record {
        view = elided_view;
        held_byte = λ place byte held. none_some (sym (held_nothing (committed.base + place)) ∙ held);
        unheld_byte = λ place none outside. unheld_byte place outside;
        free = λ address low high. held_nothing address;
        written = λ line. (only_last line, lock_last line);
      };
    }

  -- a quiet instruction touches no address, so any bytes are those there
  module _ (under : ℕ → ℕ) (untouching : touch_of (next_access (alone committed h armed.count) h) ≡ None) where
    agree : AgreeOn (touched_by committed view) under
        (byte_in (alone committed h armed.count).base (alone committed h armed.count).bytes)
    agree address there =
        absurd
        (untouched (touched_by committed view) address
        (ap touch_of (sym (armed_comes_to committed h cache armed old view run keeps).access) ∙ untouching) there)

    one_more : view_after (perform (action_of committed view) view under) view
        ≡ view_of (alone committed h (armed.count + 1)) h
    one_more =
        let shown = alone committed h armed.count in
        ap (λ execution. view_after execution view)
        (does_alike committed shown h view under keeps.view
        (armed_comes_to committed h cache armed old view run keeps) agree)
        ∙ view_after_step committed h armed.count view keeps.view runs

pub armed_goes : ArmedSectionsGoOn
armed_goes committed h cache armed old view under run keeps quiet = record {
  view =
      one_more committed h cache armed old view run keeps under
      (quiet_of (alone committed h armed.count) h quiet).untouched;
  found = keeps.found;
}

pub armed_elides : ArmedSectionsElide
armed_elides committed h cache armed old view swap rd address value run keeps is same acts =
    is_elided committed h cache armed old view run keeps swap rd address value is same acts
