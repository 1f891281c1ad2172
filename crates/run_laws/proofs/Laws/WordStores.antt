-- the two instructions of a lock: the swap that acquires it, and the store or swap that releases it; each stores a word
use Rattle.std.proofs.Common.{◌≡◌, ◌∙◌, ℕ, ℤ, Bool, true, false, ◌||◌, Option, None, Some, refl, ap, sym, if◌then◌else◌}
use Rattle.std.proofs.Common.{◌==◌}
use Rattle.std.specs.Prelude.{MatchOption}
use Rattle.std.proofs.lemmas.Option.{same_Some}
use Rattle.elf_image.specs.Program.{code_word}
use Rattle.el_model.specs.Upcoming.{Swap, calls, calls_or_stops, gives_back, is_release, is_swap, is_word}
use Rattle.el_model.specs.Upcoming.{is_word_store, next_access, next_execution}
use Rattle.el_model.specs.Upcoming.{next_store, next_swap, stops, swap_of}
use Rattle.rv_alu.proofs.Laws.Executions.{amo-action, store-action}
use Rattle.rv_alu.specs.Execution.{Execution, Goes, Stops, Store, insn_at, store_in}
use Rattle.rv_alu.specs.Footprint.{IsNoWrite}
use Rattle.rv_alu.specs.Loaded.{loaded}
use Rattle.rv_alu.specs.declared.footprint.Access.TheVariants.{Write}
use Rattle.rv_flat.proofs.Laws.StepLaws.{within}
use Rattle.rv_flat.specs.FlatState.{FlatState, room_of, span_of, view_of}
use Rattle.rv_flat.specs.Laws.{next_insn}
use Rattle.rv_flat.specs.Memory.{byte_in}
use Rattle.rv_word.specs.Decoding.{decoded}
use Rattle.rv_word.specs.declared.insn.AmoOp.{AmoOp}
use Rattle.rv_word.specs.declared.insn.Insn.{Insn}
use Rattle.rv_word.specs.declared.insn.Insn.TheVariants as insns
use Rattle.rv_word.specs.declared.insn.StoreWidth.{StoreWidth}
use Rattle.rv_word.specs.declared.insn.StoreWidth.TheVariants as widths
use Rattle.rv_word.specs.declared.reg.Reg.{Reg}
use Rattle.el_base.proofs.Laws.Tests.{first_of_both, number_of_test, second_of_both}

-- what is stored is what is written
pub writes_store : (state : FlatState) (h : ℕ) (store : Store) → next_store state h ≡ Some store →
    next_access state h ≡ Write store.address store.len
writes_store state h store is =
    is_match (next_store state h) is (within state (view_of state h)).store
  where
    is_match : (found : Option Store) → found ≡ Some store →
        MatchOption found (IsNoWrite (next_access state h))
        (λ store. next_access state h ≡ Write store.address store.len) →
        next_access state h ≡ Write store.address store.len
    is_match None is match = absurd (cc)
    is_match (Some found) is match = let same : found ≡ store =
        cc in match ∙ ap (λ store. Write store.address store.len) same

-- an instruction that stores does not stop its hart
pub storing_goes : (execution : Execution) (store : Store) → store_in execution ≡ Some store → stops execution ≡ false
storing_goes (Stops status) store is = absurd (cc)
storing_goes (Goes view found append) store is = refl

-- the word at a pc is an atomic operation
pub record IsAtomic (found : Option ℕ) : Type 0 where
  pub word : ℕ
  pub op : AmoOp
  pub rd : Reg
  pub rs1 : Reg
  pub rs2 : Reg
  pub aq : Bool
  pub rl : Bool
  pub here : found ≡ Some word
  pub means : decoded word ≡ Some (insns.Amo op rd rs1 rs2 aq rl)

pub swap_insn : (found : Option ℕ) → is_swap (insn_at found) ≡ true → IsAtomic found
swap_insn None is = absurd (cc)
swap_insn (Some word) is = by (decoded word) refl is
  where
    by : (insn : Option Insn) → decoded word ≡ insn → is_swap insn ≡ true → IsAtomic (Some word)
    by (Some (insns.Amo op rd rs1 rs2 aq rl)) means is = record {
      word = word;
      op = op;
      rd = rd;
      rs1 = rs1;
      rs2 = rs2;
      aq = aq;
      rl = rl;
      here = refl;
      means = means;
    }
    by _ means is = absurd (cc)

-- or a store of a word
pub record IsWordStore (found : Option ℕ) : Type 0 where
  pub word : ℕ
  pub rs1 : Reg
  pub rs2 : Reg
  pub offset : ℤ
  pub here : found ≡ Some word
  pub means : decoded word ≡ Some (insns.Store widths.Word rs1 rs2 offset)

pub word_store_insn : (found : Option ℕ) → is_word_store (insn_at found) ≡ true → IsWordStore found
word_store_insn None is = absurd (cc)
word_store_insn (Some word) is = by (decoded word) refl is
  where
    by_width : (width : StoreWidth) (rs1 rs2 : Reg) (offset : ℤ) →
        decoded word ≡ Some (insns.Store width rs1 rs2 offset) → is_word width ≡ true → IsWordStore (Some word)
    by_width widths.Word rs1 rs2 offset means is = record {
      word = word;
      rs1 = rs1;
      rs2 = rs2;
      offset = offset;
      here = refl;
      means = means;
    }
    by_width _ rs1 rs2 offset means is = absurd (cc)

    by : (insn : Option Insn) → decoded word ≡ insn → is_word_store insn ≡ true → IsWordStore (Some word)
    by (Some (insns.Store width rs1 rs2 offset)) means is = by_width width rs1 rs2 offset means is
    by _ means is = absurd (cc)

-- the length of what is stored
swap_length : (state : FlatState) (h : ℕ) (store : Store) → is_swap (next_insn state h) ≡ true →
    next_store state h ≡ Some store → store.len ≡ 4
swap_length state h store is stores =
    let view = view_of state h in
    let atomic = swap_insn (code_word state.code view.pc) is in
    let writes = rw atomic.here at (writes_store state h store stores) in
    (amo-action atomic.word atomic.op atomic.rd atomic.rs1 atomic.rs2 atomic.aq atomic.rl view (span_of state)
    (room_of state) store.address store.len
    atomic.means writes).1

word_store_length : (state : FlatState) (h : ℕ) (store : Store) → is_word_store (next_insn state h) ≡ true →
    next_store state h ≡ Some store → store.len ≡ 4
word_store_length state h store is stores =
    let view = view_of state h in
    let found = word_store_insn (code_word state.code view.pc) is in
    let writes = rw found.here at (writes_store state h store stores) in
    (store-action found.word widths.Word found.rs1 found.rs2 found.offset view (span_of state) (room_of state)
    store.address store.len
    found.means writes).1

-- neither makes a call
swap_no_call : (insn : Option Insn) → is_swap insn ≡ true → calls insn ≡ false
swap_no_call (Some (insns.Amo op rd rs1 rs2 aq rl)) is = refl
swap_no_call _ is = absurd (cc)

word_store_no_call : (insn : Option Insn) → is_word_store insn ≡ true → calls insn ≡ false
word_store_no_call (Some (insns.Store width rs1 rs2 offset)) is = refl
word_store_no_call _ is = absurd (cc)

-- the next instruction stores a value in a whole word, and nothing else
pub record StoresWord (state : FlatState) (h word value : ℕ) : Type 0 where
  pub stores : next_store state h ≡ Some (record { address = word; len = 4; value = value })
  pub writes : next_access state h ≡ Write word 4
  pub goes_on : calls_or_stops state h ≡ false

abbrev word_store : ℕ → ℕ → ℕ → Store
word_store word len value = record { address = word; len = len; value = value }

pub stores_word : (state : FlatState) (h word value : ℕ) (store : Store) → next_store state h ≡ Some store →
    store.address ≡ word → store.len ≡ 4 →
    store.value ≡ value → calls (next_insn state h) ≡ false → StoresWord state h word value
stores_word state h word value store is address len same none =
    let stored : store ≡ word_store word 4 value =
    ap (λ word. word_store word store.len store.value) address ∙ ap (λ len. word_store word len store.value) len
    ∙ ap (word_store word 4) same in
    record {
      stores = is ∙ ap Some stored;
      writes = writes_store state h (word_store word 4 value) (is ∙ ap Some stored);
      goes_on = rw (none, storing_goes (next_execution state h) store is) refl;
    }

-- the exchange that comes next, by an instruction that stores a word and makes no call
pub record Exchanges (state : FlatState) (h : ℕ) (swap : Swap) : Type 0 where
  pub stores : StoresWord state h swap.word swap.new
  pub old : swap.old ≡ loaded (byte_in state.base state.bytes) swap.word 4

pub exchanges : (state : FlatState) (h : ℕ) (swap : Swap) →
    ((store : Store) → next_store state h ≡ Some store → store.len ≡ 4) → calls (next_insn state h) ≡ false →
    (store : Option Store) → next_store state h ≡ store → swap_of state store ≡ Some swap → Exchanges state h swap
exchanges state h swap len none None stores is = absurd (cc)
exchanges state h swap len none (Some store) stores is =
    let same = same_Some _ swap is in
    record {
      stores =
          stores_word state h swap.word swap.new store stores (ap (λ swap. swap.word) same) (len store stores)
          (ap (λ swap. swap.new) same) none;
      old = sym (ap (λ swap. swap.old) same)
          ∙ ap (λ word. loaded (byte_in state.base state.bytes) word 4) (ap (λ swap. swap.word) same);
    }

-- the swap that comes next
pub record Acquires (state : FlatState) (h : ℕ) (swap : Swap) : Type 0 where
  pub swaps : is_swap (next_insn state h) ≡ true
  pub stores : StoresWord state h swap.word swap.new
  pub old : swap.old ≡ loaded (byte_in state.base state.bytes) swap.word 4

pub acquires : (state : FlatState) (h : ℕ) (swap : Swap) → next_swap state h ≡ Some swap → Acquires state h swap
acquires state h swap is = by (is_swap (next_insn state h)) refl is
  where
    by : (swaps : Bool) → is_swap (next_insn state h) ≡ swaps →
        (if swaps then swap_of state (next_store state h) else None) ≡ Some swap → Acquires state h swap
    by true swaps is =
        let it =
        exchanges state h swap (λ store. swap_length state h store swaps) (swap_no_call (next_insn state h) swaps)
        (next_store state h) refl is in
        record { swaps = swaps; stores = it.stores; old = it.old }
    by false swaps is = absurd (cc)

-- and a release
pub releases : (state : FlatState) (h word old : ℕ) → is_release state h word old ≡ true → StoresWord state h word old
releases state h word old is =
    by (is_word_store (next_insn state h)) (is_swap (next_insn state h)) refl refl (first_of_both _ _ is)
    (next_store state h) refl (second_of_both _ _ is)
  where
    stored : (store : Store) → next_store state h ≡ Some store → gives_back word old (Some store) ≡ true →
        store.len ≡ 4 → calls (next_insn state h) ≡ false → StoresWord state h word old
    stored store is back len none =
        stores_word state h word old store is (number_of_test store.address word (first_of_both _ _ back)) len
        (number_of_test store.value old (second_of_both (store.address == word) _ back)) none

    by : (stores swaps : Bool) → is_word_store (next_insn state h) ≡ stores → is_swap (next_insn state h) ≡ swaps →
        (stores || swaps) ≡ true → (store : Option Store) → next_store state h ≡ store →
        gives_back word old store ≡ true → StoresWord state h word old
    by stores swaps stores_is swaps_is either None none back = absurd (cc)
    by true swaps stores_is swaps_is either (Some store) is back =
        stored store is back (word_store_length state h store stores_is is)
        (word_store_no_call (next_insn state h) stores_is)
    by false true stores_is swaps_is either (Some store) is back =
        stored store is back (swap_length state h store swaps_is is) (swap_no_call (next_insn state h) swaps_is)
    by false false stores_is swaps_is either store is back = absurd (cc)
