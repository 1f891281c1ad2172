-- the actions of a swap and of a release
use Rattle.std.proofs.Common.{◌≡◌, ◌∙◌, ℕ, Bool, true, Option, None, Some, refl, ap, sym}
use Rattle.std.proofs.lemmas.Option.{same_Some}
use Rattle.elf_image.specs.Program.{code_word}
use Rattle.el_model.specs.Upcoming.{is_release, is_swap, is_swap_op, is_word_store, next_execution}
use Rattle.rv_alu.proofs.Laws.Executions.{amo-action, store-action}
use Rattle.rv_alu.specs.Execution.{Store, insn_at, store_in, view_after}
use Rattle.rv_alu.specs.Loaded.{loaded}
use Rattle.rv_alu.specs.Regs.{get}
use Rattle.rv_alu.specs.declared.action.Action.TheVariants as actions
use Rattle.rv_alu.specs.declared.footprint.Access.TheVariants.{Write}
use Rattle.rv_alu.specs.declared.view.HartView.{HartView}
use Rattle.rv_flat.specs.FlatState.{FlatState, room_of, span_of, view_of}
use Rattle.rv_flat.specs.Laws.{next_insn, touched_by}
use Rattle.rv_flat.specs.Memory.{byte_in}
use Rattle.rv_flat.specs.Step.{action_of}
use Rattle.rv_word.specs.declared.insn.AmoOp.{AmoOp}
use Rattle.rv_word.specs.declared.insn.AmoOp.TheVariants as amos
use Rattle.rv_word.specs.declared.insn.Insn.TheVariants as insns
use Rattle.rv_word.specs.declared.insn.StoreWidth.TheVariants as widths
use Rattle.rv_word.specs.declared.reg.Reg.{Reg}
use Rattle.run_laws.proofs.Laws.WordStores.{IsWordStore, StoresWord, acquires, releases, swap_insn, word_store_insn}
use Rattle.section_view.proofs.Laws.Beginning.{next_is, or_cases}
use Rattle.section_view.specs.Laws.{ReleasesStoreTheirWord, SwapsAct}
use Rattle.section_view.specs.Release.{ByStore, BySwap, IsReleaseAction, released_view}
use Rattle.el_base.proofs.Laws.Tests.{first_of_both}

-- what a swap that comes next does
swap_acts : (word : Option ℕ) (state : FlatState) (view : HartView) (op : AmoOp) (rd rs1 rs2 : Reg) (aq rl : Bool)
    (from len : ℕ) → code_word state.code view.pc ≡ word → insn_at word ≡ Some (insns.Amo op rd rs1 rs2 aq rl) →
    touched_by state view ≡ Write from len → action_of state view ≡ actions.Amo op rd from (get view.regs rs2.number)
swap_acts None state view op rd rs1 rs2 aq rl from len here is writes = absurd (cc)
swap_acts (Some word) state view op rd rs1 rs2 aq rl from len here is writes =
    rw here (amo-action word op rd rs1 rs2 aq rl view (span_of state) (room_of state) from len is (rw here at writes)).2

pub swaps_act : SwapsAct
swaps_act committed h swap op rd rs1 rs2 aq rl is means =
    let view = view_of committed h in
    swap_acts (code_word committed.code view.pc) committed view op rd rs1 rs2 aq rl swap.word 4 refl means
    (acquires committed h swap is).stores.writes

-- and a store of a word
store_acts : (state : FlatState) (view : HartView) (word len : ℕ) (found : IsWordStore (code_word state.code view.pc)) →
    touched_by state view ≡ Write word len →
    action_of state view ≡ actions.Store word len (get view.regs found.rs2.number)
store_acts state view word len found writes =
    rw found.here
    (store-action found.word widths.Word found.rs1 found.rs2 found.offset view (span_of state) (room_of state)
    word len found.means
    (rw found.here at writes)).2

swap_op : (op : AmoOp) → is_swap_op op ≡ true → op ≡ amos.Swap
swap_op amos.Swap is = refl
swap_op _ is = absurd (cc)

-- a release is one of them, and the view after it is told by the instruction
pub record Releases (state : FlatState) (h word old : ℕ) : Type 0 where
  pub acts : IsReleaseAction word old (action_of state (view_of state h))
  pub view : view_after (next_execution state h) (view_of state h)
      ≡ released_view (next_insn state h) (view_of state h) (loaded (byte_in state.base state.bytes) word 4)

by_store : (state : FlatState) (h word old : ℕ) → StoresWord state h word old →
    is_word_store (next_insn state h) ≡ true → Releases state h word old
by_store state h word old stores is =
    let view = view_of state h in
    let found = word_store_insn (code_word state.code view.pc) is in
    let value = get view.regs found.rs2.number in
    let acts : action_of state view ≡ actions.Store word 4 value = store_acts state view word 4 found stores.writes in
    let does = next_is state h (actions.Store word 4 value) acts in
    let same : value ≡ old = ap (λ store. store.value) (same_Some _ _ (ap store_in (sym does) ∙ stores.stores)) in
    let means : next_insn state h ≡ Some (insns.Store widths.Word found.rs1 found.rs2 found.offset) =
    ap insn_at found.here ∙ found.means in
    record {
      acts = ByStore (acts ∙ ap (actions.Store word 4) same);
      view =
          ap (λ execution. view_after execution view) does
          ∙ ap (λ insn. released_view insn view (loaded (byte_in state.base state.bytes) word 4)) (sym means);
    }

by_swap : (state : FlatState) (h word old : ℕ) → StoresWord state h word old → is_swap (next_insn state h) ≡ true →
    Releases state h word old
by_swap state h word old stores is =
    let view = view_of state h in
    let byte = byte_in state.base state.bytes in
    let found = swap_insn (code_word state.code view.pc) is in
    let value = get view.regs found.rs2.number in
    let means : next_insn state h ≡ Some (insns.Amo found.op found.rd found.rs1 found.rs2 found.aq found.rl) =
    ap insn_at found.here ∙ found.means in
    let swaps : found.op ≡ amos.Swap = swap_op found.op (ap is_swap (sym means) ∙ is) in
    let acts : action_of state view ≡ actions.Amo amos.Swap found.rd word value =
    swap_acts (code_word state.code view.pc) state view found.op found.rd found.rs1 found.rs2 found.aq found.rl word 4
    refl means stores.writes
    ∙ ap (λ op. actions.Amo op found.rd word value) swaps in
    let does = next_is state h (actions.Amo amos.Swap found.rd word value) acts in
    let same : value ≡ old = ap (λ store. store.value) (same_Some _ _ (ap store_in (sym does) ∙ stores.stores)) in
    record {
      acts = BySwap found.rd (acts ∙ ap (actions.Amo amos.Swap found.rd word) same);
      view =
          ap (λ execution. view_after execution view) does
          ∙ ap (λ insn. released_view insn view (loaded (byte_in state.base state.bytes) word 4)) (sym means);
    }

pub release_is : (state : FlatState) (h word old : ℕ) → is_release state h word old ≡ true → Releases state h word old
release_is state h word old is =
    let stores = releases state h word old is in
    or_cases (is_word_store (next_insn state h)) (is_swap (next_insn state h)) (first_of_both _ _ is)
    (by_store state h word old stores)
    (by_swap state h word old stores)

pub release_actions : ReleasesStoreTheirWord
release_actions state h word old is = (release_is state h word old is).acts
