-- a section begins with the view after its swap and a hold of nothing
use Rattle.std.proofs.Common.{◌≡◌, ◌+◌, ◌∙◌, ◌||◌, ◌==◌, ℕ, Bool, true, false, [], None, Some, arith, refl, ap, sym}
use Rattle.std.proofs.Common.{subst}
use Rattle.std.proofs.lemmas.Option.{same_Some}
use Rattle.el_base.specs.Line.{line_number}
use Rattle.el_base.proofs.Laws.Tests.{number_of_test, own_test}
use Rattle.el_model.specs.Upcoming.{Swap, next_execution, next_swap}
use Rattle.rv_alu.specs.Execution.{Store, perform, put_of, release_of, store_in, view_after}
use Rattle.rv_alu.specs.Loaded.{loaded}
use Rattle.rv_alu.specs.declared.action.Action.{Action}
use Rattle.rv_alu.specs.declared.action.Action.TheVariants as actions
use Rattle.rv_alu.specs.declared.view.HartStatus.TheVariants.{Running}
use Rattle.rv_flat.proofs.Laws.RunsAfter.{runs-exists}
use Rattle.rv_flat.proofs.Laws.StepLaws.{own_view}
use Rattle.rv_flat.specs.FlatState.{FlatState, status_of, view_of}
use Rattle.rv_flat.specs.Laws.{footprint_of, written_line}
use Rattle.rv_flat.specs.Memory.{byte_in}
use Rattle.rv_flat.specs.Run.{alone}
use Rattle.rv_flat.specs.Step.{action_of, flat}
use Rattle.run_laws.proofs.Laws.Shown.{keeps_outside, running_footprint}
use Rattle.run_laws.proofs.Laws.WordStores.{Acquires, StoresWord, acquires}
use Rattle.section_view.proofs.Laws.ShownBytes.{executed_is}
use Rattle.section_view.specs.KeptRun.{WroteLine, is_written}
use Rattle.section_view.specs.Laws.{SectionsBegin}
use Rattle.write_hold.proofs.Laws.LookUps.{held_nothing}
use Rattle.write_hold.specs.Held.{holds}

-- what comes next is its action, carried out
pub next_is : (state : FlatState) (h : ℕ) (action : Action) → action_of state (view_of state h) ≡ action →
    next_execution state h ≡ perform action (view_of state h) (byte_in state.base state.bytes)
next_is state h action is =
    let byte = byte_in state.base state.bytes in
    executed_is state (view_of state h) byte ∙ ap (λ action. perform action (view_of state h) byte) is

-- two stores that are the same have one address
same_address : (left right : Store) → Some left ≡ Some right → left.address ≡ right.address
same_address left right same = ap (λ store. store.address) (same_store left right same)
  where
    same_store : (left right : Store) → Some left ≡ Some right → left ≡ right
    same_store left right same = cc

-- a word's line is the one that a store of the word writes
pub word_written : (state : FlatState) (h word value : ℕ) → status_of state h ≡ Running →
    StoresWord state h word value → written_line (footprint_of state h) ≡ Some (line_number word)
word_written state h word value runs stores = ap written_line (running_footprint state h runs ∙ stores.writes)

pub or_cases : {X : Type 0} (a b : Bool) → (a || b) ≡ true → (a ≡ true → X) → (b ≡ true → X) → X
or_cases true b is left right = left refl
or_cases false b is left right = right is

module _ (committed : FlatState) (h : ℕ) (swap : Swap) (runs : status_of committed h ≡ Running)
    (is : next_swap committed h ≡ Some swap) where
  first : Acquires committed h swap
  first = acquires committed h swap is

  begun_view : (op : _) (rd : _) (address source : ℕ) → action_of committed (view_of committed h) ≡ actions.Amo op rd
      address source → release_of (put_of (view_of committed h) rd.number swap.old) ≡ view_of (flat committed h) h
  begun_view op rd address source acts =
      let view = view_of committed h in
      let byte = byte_in committed.base committed.bytes in
      let does = next_is committed h (actions.Amo op rd address source) acts in
      let there : address ≡ swap.word =
      same_address _ _ (ap store_in (sym does) ∙ first.stores.stores) in
      ap (λ old. release_of (put_of view rd.number old)) (first.old ∙ ap (λ word. loaded byte word 4) (sym there))
      ∙ ap (λ execution. view_after execution view) (sym does)
      ∙ sym (own_view committed h (runs-exists committed h runs) runs)

  only_first : (line : ℕ) → WroteLine committed h 1 line → is_written swap.word [] line ≡ true
  only_first line wrote =
      let none : wrote.step ≡ 0 = let before = wrote.before in omega arith in
      let written : written_line (footprint_of committed h) ≡ Some line =
      subst (λ n. written_line (footprint_of (alone committed h n) h) ≡ Some line) none wrote.writes in
      let same : line_number swap.word ≡ line =
      same_Some _ line (sym (word_written committed h swap.word swap.new runs first.stores) ∙ written) in
      subst (λ line. is_written swap.word [] line ≡ true) same
      (ap (λ test. test || holds [] (line_number swap.word)) (own_test (line_number swap.word)))

  lock_first : (line : ℕ) → is_written swap.word [] line ≡ true → WroteLine committed h 1 line
  lock_first line is =
      or_cases (line == line_number swap.word) false is
      (λ own.
      record {
        step = 0;
        before = omega arith;
        writes =
            word_written committed h swap.word swap.new runs first.stores
            ∙ ap Some (sym (number_of_test line (line_number swap.word) own));
      })
      (λ wrong. absurd (cc))

pub begins : SectionsBegin
begins committed h swap op rd address source runs is acts = record {
  view = begun_view committed h swap runs is op rd address source acts;
  held_byte = λ place byte held. none_some (sym (held_nothing (committed.base + place)) ∙ held);
  unheld_byte =
      λ place none out. keeps_outside committed h swap.word swap.new place runs
      (first committed h swap runs is).stores out;
  free = λ address low high. held_nothing address;
  written = λ line. (only_first committed h swap runs is line, lock_first committed h swap runs is line);
}
  where
    none_some : {X : Type 0} {byte : ℕ} → None ≡ Some byte → X
    none_some wrong = absurd (cc)
