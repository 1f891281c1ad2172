-- the instructions of an armed section: the LR that reserves its word, what is quiet, and the SC that
-- completes it; none but the SC stores
use Rattle.std.proofs.Common.{◌≡◌, ◌∙◌, ◌≤◌, ◌<◌, ◌+◌, ◌%◌, ◌&&◌, ◌==◌, ℕ, zero, suc, Bool, true, false, not, List}
use Rattle.std.proofs.Common.{Option, None, Some, is_some, refl}
use Rattle.std.proofs.Common.{ap, sym, subst, arith, if◌then◌else◌}
use Rattle.std.specs.Prelude.{MatchOption}
use Rattle.std.proofs.lemmas.Option.{same_Some}
use Rattle.std.proofs.lemmas.Bool.{not-true}
use Rattle.residency.specs.Residency.{Way}
use Rattle.elf_image.specs.Program.{code_word}
use Rattle.el_model.specs.Armed.{is_quiet}
use Rattle.el_model.specs.State.{Armed}
use Rattle.el_model.specs.Upcoming.{Swap, calls, calls_or_stops, is_load_reserved, is_store_conditional, next_access}
use Rattle.el_model.specs.Upcoming.{next_conditional}
use Rattle.el_model.specs.Upcoming.{next_reserved, next_store, next_touch, read_at, stops, swap_of, touch_of}
use Rattle.rv_alu.specs.Action.{action_at, action_of, checked_of, has_reserved_of}
use Rattle.rv_alu.specs.Cause.{load_access_fault, load_address_misaligned}
use Rattle.rv_alu.specs.Execution.{Store, executed, insn_at, perform, touched}
use Rattle.rv_alu.specs.Footprint.{IsNoWrite, footprint}
use Rattle.rv_alu.specs.Loaded.{loaded}
use Rattle.rv_alu.specs.Regs.{get}
use Rattle.rv_alu.specs.Span.{holds}
use Rattle.rv_alu.specs.declared.action.Action.{Action}
use Rattle.rv_alu.specs.declared.action.Action.TheVariants as actions
use Rattle.rv_alu.specs.declared.footprint.Access.{Access}
use Rattle.rv_alu.specs.declared.footprint.Access.TheVariants.{Nothing, Read, Write, Trap, Exit}
use Rattle.rv_alu.specs.declared.span.Span.{Span}
use Rattle.rv_alu.specs.declared.view.HartStatus.TheVariants.{Running}
use Rattle.rv_alu.specs.declared.view.HartView.{HartView}
use Rattle.rv_flat.proofs.Laws.StepLaws.{running, within}
use Rattle.rv_flat.specs.FlatState.{FlatState, room_of, span_of, status_of, view_of}
use Rattle.rv_flat.specs.Laws.{next_insn}
use Rattle.rv_flat.specs.Memory.{byte_in}
use Rattle.rv_flat.specs.Run.{alone}
use Rattle.rv_flat.specs.Step.{flat, stored_by}
use Rattle.rv_word.specs.Decoding.{decoded}
use Rattle.rv_word.specs.declared.insn.Insn.{Insn}
use Rattle.rv_word.specs.declared.insn.Insn.TheVariants as insns
use Rattle.rv_word.specs.declared.reg.Reg.{Reg}
use Rattle.run_laws.proofs.Laws.Alike.{alone_base, alone_more}
use Rattle.run_laws.proofs.Laws.WordStores.{StoresWord, acquires, exchanges, writes_store}
use Rattle.run_laws.specs.PrivateRun.{IsAcquire, IsArmedRun}
use Rattle.el_base.proofs.Laws.Tests.{first_of_both, second_of_both}
use Rattle.el_base.proofs.Laws.Options.{none_from}

-- the word at a pc is an LR
pub record IsReserve (found : Option ℕ) : Type 0 where
  pub word : ℕ
  pub rd : Reg
  pub rs1 : Reg
  pub aq : Bool
  pub rl : Bool
  pub here : found ≡ Some word
  pub means : decoded word ≡ Some (insns.Lr rd rs1 aq rl)

pub reserve_insn : (found : Option ℕ) → is_load_reserved (insn_at found) ≡ true → IsReserve found
reserve_insn None is = absurd (cc)
reserve_insn (Some word) is = by (decoded word) refl is
  where
    by : (insn : Option Insn) → decoded word ≡ insn → is_load_reserved insn ≡ true → IsReserve (Some word)
    by (Some (insns.Lr rd rs1 aq rl)) means is =
        record { word = word; rd = rd; rs1 = rs1; aq = aq; rl = rl; here = refl; means = means }
    by _ means is = absurd (cc)

-- one that reads has passed its checks
checked-read : (span : Span) (address size misaligned outside : ℕ) (action : Action) (from len : ℕ) →
    footprint (checked_of span address size misaligned outside action) ≡ Read from len →
    checked_of span address size misaligned outside action ≡ action
checked-read span address size misaligned outside action from len =
    tested (address % size == 0) (holds span address size)
  where
    tested : (b c : Bool) →
        footprint (if b then (if c then action else actions.Trap outside) else actions.Trap misaligned)
        ≡ Read from len → (if b then (if c then action else actions.Trap outside) else actions.Trap misaligned) ≡ action
    tested true true h = refl
    tested true false h = cc
    tested false c h = cc

-- and loads a word that it reserves
lr-action : (word : ℕ) (rd rs1 : Reg) (aq rl : Bool) (view : HartView) (span : Span) (room from len : ℕ) →
    decoded word ≡ Some (insns.Lr rd rs1 aq rl) → touched (Some word) view span room ≡ Read from len →
    (len ≡ 4) × (action_at (Some word) view span room ≡ actions.LoadReserved rd from)
unfolding action_of
lr-action word rd rs1 aq rl view span room from len is reads =
    let address : ℕ = get view.regs rs1.number in
    let action : Action = actions.LoadReserved rd address in
    let reads = rw is at reads in
    let went : checked_of span address 4 load_address_misaligned load_access_fault action ≡ action =
    checked-read span address 4 load_address_misaligned load_access_fault action from len reads in
    let there : Read address 4 ≡ Read from len = rw went at reads in
    (cc, rw is (cc went))

-- so what it touches and what it does do not depend on what the hart had reserved
pub lr-reserved : (word : ℕ) (rd rs1 : Reg) (aq rl : Bool) (view : HartView) (reserved : Option ℕ) (span : Span)
    (room from len : ℕ)
    (byte : ℕ → ℕ) → decoded word ≡ Some (insns.Lr rd rs1 aq rl) → touched (Some word) view span room ≡ Read from len →
    (touched (Some word) (record view { reserved = reserved }) span room ≡ Read from len)
    × (executed (Some word) (record view { reserved = reserved }) span room byte
    ≡ executed (Some word) view span room byte)
unfolding action_of executed
lr-reserved word rd rs1 aq rl view reserved span room from len byte is reads =
    let other : HartView = record view { reserved = reserved } in
    let here = lr-action word rd rs1 aq rl view span room from len is reads in
    let same : touched (Some word) other span room ≡ touched (Some word) view span room = rw is refl in
    let there = lr-action word rd rs1 aq rl other span room from len is (same ∙ reads) in (
      same ∙ reads,
      ap (λ action. perform action other byte) there.1
          ∙ sym (ap (λ action. perform action view byte) here.1),
    )

-- it does not stop its hart
lr-goes : (word : ℕ) (rd rs1 : Reg) (aq rl : Bool) (view : HartView) (span : Span) (room from len : ℕ) (byte : ℕ → ℕ) →
    decoded word ≡ Some (insns.Lr rd rs1 aq rl) → touched (Some word) view span room ≡ Read from len →
    stops (executed (Some word) view span room byte) ≡ false
unfolding executed
lr-goes word rd rs1 aq rl view span room from len byte is reads =
    ap (λ action. stops (perform action view byte)) (lr-action word rd rs1 aq rl view span room from len is reads).1

-- the LR that comes next
pub record Reserves (state : FlatState) (h word : ℕ) : Type 0 where
  pub reserving : is_load_reserved (next_insn state h) ≡ true
  pub reads : next_access state h ≡ Read word 4
  pub goes_on : calls_or_stops state h ≡ false

reserve_no_call : (insn : Option Insn) → is_load_reserved insn ≡ true → calls insn ≡ false
reserve_no_call (Some (insns.Lr rd rs1 aq rl)) is = refl
reserve_no_call _ is = absurd (cc)

-- where an access reads
IsReadAt : Access → ℕ → Type 0
IsReadAt access from = (len : ℕ) × (access ≡ Read from len)

read_from : (access : Access) (from : ℕ) → read_at access ≡ Some from → IsReadAt access from
unfolding IsReadAt
read_from (Read address len) from is = (len, ap (λ a. Read a len) (same_Some address from is))
read_from Nothing from is = absurd (cc)
read_from (Write address len) from is = absurd (cc)
read_from (Trap cause) from is = absurd (cc)
read_from (Exit code) from is = absurd (cc)

pub reserves : (state : FlatState) (h word : ℕ) → next_reserved state h ≡ Some word → Reserves state h word
unfolding IsReadAt
reserves state h word is = by (is_load_reserved (next_insn state h)) refl is
  where
    view : HartView
    view = view_of state h

    found : is_load_reserved (next_insn state h) ≡ true → IsReadAt (next_access state h) word → Reserves state h word
    found reserving (len, reads) =
        let lr = reserve_insn (code_word state.code view.pc) reserving in
        let at_word = rw lr.here at reads in
        let four =
        (lr-action lr.word lr.rd lr.rs1 lr.aq lr.rl view (span_of state) (room_of state) word len
        lr.means at_word).0 in
        let goes =
        ap (λ w. stops (executed w view (span_of state) (room_of state) (byte_in state.base state.bytes))) lr.here
        ∙ lr-goes lr.word lr.rd lr.rs1 lr.aq lr.rl view (span_of state) (room_of state) word len
        (byte_in state.base state.bytes) lr.means at_word in
        record {
          reserving = reserving;
          reads = reads ∙ ap (Read word) four;
          goes_on = rw (reserve_no_call (next_insn state h) reserving, goes) refl;
        }

    by : (reserving : Bool) → is_load_reserved (next_insn state h) ≡ reserving →
        (if reserving then read_at (next_access state h) else None) ≡ Some word → Reserves state h word
    by true reserving is = found reserving (read_from (next_access state h) word is)
    by false reserving is = absurd (cc)

-- a quiet instruction
pub record Quiet (state : FlatState) (h : ℕ) : Type 0 where
  pub untouched : next_touch state h ≡ None
  pub no_conditional : is_store_conditional (next_insn state h) ≡ false
  pub goes_on : calls_or_stops state h ≡ false

pub quiet_of : (state : FlatState) (h : ℕ) → is_quiet state h ≡ true → Quiet state h
quiet_of state h is =
    let first =
    first_of_both (not (is_some (next_touch state h)) && not (is_store_conditional (next_insn state h)))
    (not (calls_or_stops state h)) is in
    record {
      untouched =
          none_from (next_touch state h)
          (not-true (is_some (next_touch state h)) (first_of_both (not (is_some (next_touch state h))) _ first));
      no_conditional =
          not-true (is_store_conditional (next_insn state h))
          (second_of_both (not (is_some (next_touch state h))) _ first);
      goes_on = not-true (calls_or_stops state h)
          (second_of_both (not (is_some (next_touch state h)) && not (is_store_conditional (next_insn state h)))
          (not (calls_or_stops state h)) is);
    }

-- what writes nothing leaves memory as it was
no_store : (state : FlatState) (h : ℕ) → IsNoWrite (next_access state h) → next_store state h ≡ None
no_store state h none = by (next_store state h) (within state (view_of state h)).store
  where
    by : (store : Option Store) →
        MatchOption store (IsNoWrite (next_access state h))
        (λ store. next_access state h ≡ Write store.address store.len) → store ≡ None
    by None match = refl
    by (Some store) match = absurd (subst IsNoWrite match none)

pub keeps_memory : (state : FlatState) (h : ℕ) → status_of state h ≡ Running → IsNoWrite (next_access state h) →
    (flat state h).bytes ≡ state.bytes
keeps_memory state h runs none =
    ap (λ new. new.bytes) (running state h runs) ∙ ap (λ store. stored_by store state.base state.bytes)
    (no_store state h none)

untouched_writes : (access : Access) → touch_of access ≡ None → IsNoWrite access
untouched_writes (Write from len) none = absurd (cc)
untouched_writes (Read from len) none = absurd (cc)
untouched_writes Nothing none = tt
untouched_writes (Trap cause) none = tt
untouched_writes (Exit code) none = tt

-- an instruction that writes nothing, calls nothing and does not stop its hart
pub record IsSilent (state : FlatState) (h : ℕ) : Type 0 where
  pub writes_none : IsNoWrite (next_access state h)
  pub goes_on : calls_or_stops state h ≡ false

pub reserve_silent : (state : FlatState) (h word : ℕ) → next_reserved state h ≡ Some word → IsSilent state h
reserve_silent state h word is =
    let it = reserves state h word is in
    record { writes_none = subst IsNoWrite (sym it.reads) tt; goes_on = it.goes_on }

pub quiet_silent : (state : FlatState) (h : ℕ) → is_quiet state h ≡ true → IsSilent state h
quiet_silent state h is =
    let it = quiet_of state h is in
    record { writes_none = untouched_writes (next_access state h) it.untouched; goes_on = it.goes_on }

-- so is each of an armed run, which leaves memory as it was
module _ (committed : FlatState) (h : ℕ) (cache : List (List Way)) (armed : Armed)
    (run : IsArmedRun committed h cache armed) where
  pub silent_at : (n : ℕ) → n < armed.count → IsSilent (alone committed h n) h
  silent_at zero less = reserve_silent committed h armed.word run.reserve
  silent_at (suc n) less = quiet_silent (alone committed h (suc n)) h (run.quiet (suc n) (omega arith) less)

  pub armed_memory : (n : ℕ) → n ≤ armed.count → (alone committed h n).bytes ≡ committed.bytes
  armed_memory zero within = refl
  armed_memory (suc n) within =
      let next : suc n ≡ n + 1 = omega arith in
      ap (λ m. (alone committed h m).bytes) next ∙ ap (λ state. state.bytes) (alone_more committed h n)
      ∙ keeps_memory (alone committed h n) h (run.running n (omega (arith, within)))
      (silent_at n (omega (arith, within))).writes_none
      ∙ armed_memory n (omega (arith, within))

-- an SC that stores, stores a word
pub record IsAnSc (found : Option ℕ) : Type 0 where
  pub word : ℕ
  pub rd : Reg
  pub rs1 : Reg
  pub rs2 : Reg
  pub aq : Bool
  pub rl : Bool
  pub here : found ≡ Some word
  pub means : decoded word ≡ Some (insns.Sc rd rs1 rs2 aq rl)

conditional_insn : (found : Option ℕ) → is_store_conditional (insn_at found) ≡ true → IsAnSc found
conditional_insn None is = absurd (cc)
conditional_insn (Some word) is = by (decoded word) refl is
  where
    by : (insn : Option Insn) → decoded word ≡ insn → is_store_conditional insn ≡ true → IsAnSc (Some word)
    by (Some (insns.Sc rd rs1 rs2 aq rl)) means is =
        record { word = word; rd = rd; rs1 = rs1; rs2 = rs2; aq = aq; rl = rl; here = refl; means = means }
    by _ means is = absurd (cc)

sc-length : (word : ℕ) (rd rs1 rs2 : Reg) (aq rl : Bool) (view : HartView) (span : Span) (room from len : ℕ) →
    decoded word ≡ Some (insns.Sc rd rs1 rs2 aq rl) → touched (Some word) view span room ≡ Write from len → len ≡ 4
unfolding action_of
sc-length word rd rs1 rs2 aq rl view span room from len is writes =
    let address : ℕ = get view.regs rs1.number in
    tested (address % 4 == 0) (holds span address 4) (has_reserved_of view.reserved address) address
    (get view.regs rs2.number) _ _
    (rw is at writes)
  where
    tested : (b c d : Bool) (address value misaligned outside : ℕ) →
        footprint
        (if b then (if c then (if d then actions.StoreConditional rd address value else actions.Fail rd)
        else actions.Trap outside)
        else actions.Trap misaligned) ≡ Write from len → len ≡ 4
    tested true true true address value misaligned outside h = cc
    tested true true false address value misaligned outside h = absurd (cc)
    tested true false d address value misaligned outside h = absurd (cc)
    tested false c d address value misaligned outside h = absurd (cc)

conditional_no_call : (insn : Option Insn) → is_store_conditional insn ≡ true → calls insn ≡ false
conditional_no_call (Some (insns.Sc rd rs1 rs2 aq rl)) is = refl
conditional_no_call _ is = absurd (cc)

-- the SC that comes next, and succeeds
pub record Completes (state : FlatState) (h : ℕ) (swap : Swap) : Type 0 where
  pub conditional : is_store_conditional (next_insn state h) ≡ true
  pub stores : StoresWord state h swap.word swap.new
  pub old : swap.old ≡ loaded (byte_in state.base state.bytes) swap.word 4

pub completes_by : (state : FlatState) (h : ℕ) (swap : Swap) → next_conditional state h ≡ Some swap →
    Completes state h swap
completes_by state h swap is = by (is_store_conditional (next_insn state h)) refl is
  where
    length_of : is_store_conditional (next_insn state h) ≡ true → (store : Store) →
        next_store state h ≡ Some store → store.len ≡ 4
    length_of conditional store stores =
        let view = view_of state h in
        let sc = conditional_insn (code_word state.code view.pc) conditional in
        let writes = rw sc.here at (writes_store state h store stores) in
        sc-length sc.word sc.rd sc.rs1 sc.rs2 sc.aq sc.rl view (span_of state) (room_of state) store.address
        store.len sc.means writes

    by : (conditional : Bool) → is_store_conditional (next_insn state h) ≡ conditional →
        (if conditional then swap_of state (next_store state h) else None) ≡ Some swap → Completes state h swap
    by true conditional is =
        let it =
        exchanges state h swap (length_of conditional) (conditional_no_call (next_insn state h) conditional)
        (next_store state h) refl is in
        record { conditional = conditional; stores = it.stores; old = it.old }
    by false conditional is = absurd (cc)

-- an acquire, by a swap or by an SC: it would store the new value, and finds the old one in memory as it is committed
pub record AcquiresAt (committed : FlatState) (h before : ℕ) (swap : Swap) : Type 0 where
  pub stores : StoresWord (alone committed h before) h swap.word swap.new
  pub memory : (alone committed h before).bytes ≡ committed.bytes
  pub old : swap.old ≡ loaded (byte_in committed.base committed.bytes) swap.word 4

pub acquires_at : (committed : FlatState) (h : ℕ) (cache : List (List Way)) (before : ℕ) (swap : Swap) →
    IsAcquire committed h cache before swap → AcquiresAt committed h before swap
acquires_at committed h cache zero swap is =
    let it = acquires committed h swap is in record { stores = it.stores; memory = refl; old = it.old }
acquires_at committed h cache (suc n) swap (run, is) =
    let it = completes_by (alone committed h (suc n)) h swap is in
    let memory =
    armed_memory committed h cache (record { count = suc n; word = swap.word }) run (suc n) (omega arith) in
    record {
      stores = it.stores;
      memory = memory;
      old =
          it.old ∙ ap (λ base. loaded (byte_in base (alone committed h (suc n)).bytes) swap.word 4)
          (alone_base committed h (suc n))
          ∙ ap (λ bytes. loaded (byte_in committed.base bytes) swap.word 4) memory;
    }
