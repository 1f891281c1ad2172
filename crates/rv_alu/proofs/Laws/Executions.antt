-- laws of executions
use Rattle.std.proofs.Common.{◌≡◌, ◌≤◌, ◌<◌, ℕ, ℤ, zero, suc, ◌+◌, ◌%◌, Bool, true, false, List, Option, None, Some}
use Rattle.std.proofs.Common.{arith, refl, ap, sym, ◌∙◌}
use Rattle.std.specs.Prelude.{IfSome, MatchOption, OnSome, ◌==◌, if◌then◌else◌}
use Rattle.std.proofs.lemmas.Bool.Decides.{nat_tests}
use Rattle.std.proofs.lemmas.Grind.{common_steps}
use Rattle.rv_word.specs.Decoding.{decoded}
use Rattle.rv_word.specs.declared.insn.AmoOp.{AmoOp}
use Rattle.rv_word.specs.declared.insn.Insn.{Insn}
use Rattle.rv_word.specs.declared.insn.Insn.TheVariants as insns
use Rattle.rv_word.specs.declared.insn.StoreWidth.{StoreWidth}
use Rattle.rv_word.specs.declared.reg.Reg.{Reg}
use Rattle.rv_alu.proofs.Laws.Footprints.{fits}
use Rattle.rv_alu.specs.declared.action.Action.{Action}
use Rattle.rv_alu.specs.declared.action.Action.TheVariants as actions
use Rattle.rv_alu.specs.declared.footprint.Access.{Access}
use Rattle.rv_alu.specs.declared.footprint.Access.TheVariants.{Read, Write}
use Rattle.rv_alu.specs.declared.span.Span.{Span}
use Rattle.rv_alu.specs.declared.view.HartView.{HartView}
use Rattle.rv_alu.specs.Action.{action_at, action_of, checked_of, insn_action_of, load_size_of, store_size_of}
use Rattle.rv_alu.specs.Cause.{store_access_fault, store_address_misaligned}
use Rattle.rv_alu.specs.Execution.{Execution, Goes, append_in, executed, insn_at, insn_touched, perform, put_of}
use Rattle.rv_alu.specs.Execution.{release_of, store_in, touched, view_after}
use Rattle.rv_alu.specs.Footprint.{AgreeOn, IsInPlace, IsNoCall, IsNoStoreConditional, IsNoWrite, footprint, is_call}
use Rattle.rv_alu.specs.Footprint.{is_store_conditional}
use Rattle.rv_alu.specs.Loaded.{loaded}
use Rattle.rv_alu.specs.Operation.{amo_of, extend_of, moved_of}
use Rattle.rv_alu.specs.Regs.{AreRegs, a0, get, set}
use Rattle.rv_alu.specs.Span.{holds}
use Rattle.rv_alu.specs.Reservations.{reserved_off, unreserved}

-- a store ends the hart's own reservation
pub store_ends_reservation : (action : Action) (view : HartView) (byte : ℕ → ℕ) →
    OnSome (store_in (perform action view byte)) ((view_after (perform action view byte) view).reserved ≡ None)
store_ends_reservation (actions.Store address len value) view byte = refl
store_ends_reservation (actions.StoreConditional rd address value) view byte = refl
store_ends_reservation (actions.Amo op rd address source) view byte = refl
store_ends_reservation _ view byte = tt

-- what is loaded depends on the bytes there alone
pub loaded-same : (left right : ℕ → ℕ) (address len : ℕ) →
    ((k : ℕ) → address ≤ k → k < address + len → left k ≡ right k) → loaded left address len ≡ loaded right address len
loaded-same left right address zero h = refl
loaded-same left right address (suc len) h =
    let first : left address ≡ right address = h address (omega arith) (omega arith) in
    let rest : loaded left (address + 1) len ≡ loaded right (address + 1) len =
    loaded-same left right (address + 1) len (λ k low high. h k (omega arith) (omega arith)) in
    cc

-- an action depends on the bytes of its footprint alone
perform-agree : (action : Action) (view : HartView) (left right : ℕ → ℕ) → AgreeOn (footprint action) left right →
    perform action view left ≡ perform action view right
perform-agree (actions.Load width rd address) view left right agree =
    ap (λ number. Goes (put_of view rd.number (extend_of width number)) None None)
    (loaded-same left right address (load_size_of width) (λ k low high. agree k (low, high)))
perform-agree (actions.LoadReserved rd address) view left right agree =
    ap (λ number. Goes (record (put_of view rd.number number) { reserved = Some address }) None None)
    (loaded-same left right address 4 (λ k low high. agree k (low, high)))
perform-agree (actions.Amo op rd address source) view left right agree =
    ap (λ number. Goes (release_of (put_of view rd.number number))
    (Some (record { address = address; len = 4; value = amo_of op number source })) None)
    (loaded-same left right address 4 (λ k low high. agree k (low, high)))
perform-agree _ view left right agree = refl

insn-agree : (insn : Option Insn) (view : HartView) (span : Span) (room : ℕ) (left right : ℕ → ℕ) →
    AgreeOn (insn_touched insn view span room) left right →
    perform (insn_action_of insn view span room) view left ≡ perform (insn_action_of insn view span room) view right
insn-agree None view span room left right agree = refl
insn-agree (Some insn) view span room left right agree =
    perform-agree (action_of insn view.pc view.regs view.reserved span room) view left right agree

-- an instruction depends on the bytes of its footprint alone
pub executed_agree : (word : Option ℕ) (view : HartView) (span : Span) (room : ℕ) (left right : ℕ → ℕ) →
    AgreeOn (touched word view span room) left right →
    executed word view span room left ≡ executed word view span room right
unfolding executed
executed_agree None view span room left right agree = refl
executed_agree (Some word) view span room left right agree = insn-agree (decoded word) view span room left right agree

-- only a call depends on the room that the output has
pub action-room : (insn : Insn) (pc : ℕ) (regs : List ℕ) (reserved : Option ℕ) (span : Span) (room other : ℕ) →
    is_call insn ≡ false → action_of insn pc regs reserved span room ≡ action_of insn pc regs reserved span other
unfolding action_of
action-room insns.Ecall pc regs reserved span room other h = cc
action-room _ pc regs reserved span room other h = refl

insn-room : (insn : Option Insn) (view : HartView) (span : Span) (room other : ℕ) → IsNoCall insn →
    insn_action_of insn view span room ≡ insn_action_of insn view span other
insn-room None view span room other h = refl
insn-room (Some insn) view span room other h = action-room insn view.pc view.regs view.reserved span room other h

pub executed-room : (word : Option ℕ) (view : HartView) (span : Span) (room other : ℕ) (byte : ℕ → ℕ) →
    IsNoCall (insn_at word) → executed word view span room byte ≡ executed word view span other byte
unfolding executed
executed-room None view span room other byte h = refl
executed-room (Some word) view span room other byte h =
    ap (λ action. perform action view byte) (insn-room (decoded word) view span room other h)

-- an output without room takes nothing
no_room-append : (span : Span) (action : Action) (view : HartView) (byte : ℕ → ℕ) → IsInPlace span 0 action →
    append_in (perform action view byte) ≡ None
no_room-append span (actions.Append address len) view byte h =
    let some : 1 ≤ len = h.0.some in
    let none : len ≤ 0 = h.1 in
    absurd (omega arith)
no_room-append span _ view byte h = refl

insn-append : (insn : Option Insn) (view : HartView) (span : Span) (room : ℕ) (byte : ℕ → ℕ) → IsNoCall insn →
    append_in (perform (insn_action_of insn view span room) view byte) ≡ None
insn-append None view span room byte h = refl
insn-append (Some insn) view span room byte h =
    rw (action-room insn view.pc view.regs view.reserved span room 0 h)
    (no_room-append span (action_of insn view.pc view.regs view.reserved span 0) view byte
    (fits insn view.pc view.regs view.reserved span 0).in_place)

-- only a call appends to the output
pub executed-append : (word : Option ℕ) (view : HartView) (span : Span) (room : ℕ) (byte : ℕ → ℕ) →
    IsNoCall (insn_at word) → append_in (executed word view span room byte) ≡ None
unfolding executed
executed-append None view span room byte h = refl
executed-append (Some word) view span room byte h = insn-append (decoded word) view span room byte h

pub touched-room : (insn : Option Insn) (view : HartView) (span : Span) (room other : ℕ) → IsNoCall insn →
    insn_touched insn view span room ≡ insn_touched insn view span other
touched-room None view span room other h = refl
touched-room (Some insn) view span room other h =
    ap footprint (action-room insn view.pc view.regs view.reserved span room other h)

-- only a store conditional depends on the reservation
pub action-reserved : (insn : Insn) (pc : ℕ) (regs : List ℕ) (reserved other : Option ℕ) (span : Span) (room : ℕ) →
    is_store_conditional insn ≡ false →
    action_of insn pc regs reserved span room ≡ action_of insn pc regs other span room
unfolding action_of
action-reserved (insns.Sc rd rs1 rs2 aq rl) pc regs reserved other span room h = cc
action-reserved _ pc regs reserved other span room h = refl

-- two executions are the same but for what they leave of the hart's reservation
pub record IsSameButReservation (left right : Execution) (view other : HartView) : Type 0 where
  pub seen : view_after left view ≡ record (view_after right other) { reserved = (view_after left view).reserved }
  pub store : store_in left ≡ store_in right
  pub append : append_in left ≡ append_in right

perform-reserved : (action : Action) (view : HartView) (reserved : Option ℕ) (byte : ℕ → ℕ) →
    IsSameButReservation (perform action (record view { reserved = reserved }) byte) (perform action view byte)
    (record view { reserved = reserved }) view
perform-reserved (actions.Trap cause) view reserved byte = record { seen = refl; store = refl; append = refl }
perform-reserved (actions.Exit code) view reserved byte = record { seen = refl; store = refl; append = refl }
perform-reserved _ view reserved byte = record { seen = refl; store = refl; append = refl }

insn-reserved : (insn : Option Insn) (view : HartView) (reserved : Option ℕ) (span : Span) (room : ℕ) →
    IsNoStoreConditional insn → insn_action_of insn (record view { reserved = reserved }) span room
    ≡ insn_action_of insn view span room
insn-reserved None view reserved span room h = refl
insn-reserved (Some insn) view reserved span room h =
    action-reserved insn view.pc view.regs reserved view.reserved span room h

pub executed-reserved : (word : Option ℕ) (view : HartView) (reserved : Option ℕ) (span : Span) (room : ℕ)
    (byte : ℕ → ℕ) → IsNoStoreConditional (insn_at word) →
    IsSameButReservation (executed word (record view { reserved = reserved }) span room byte)
    (executed word view span room byte)
    (record view { reserved = reserved }) view
unfolding executed
executed-reserved None view reserved span room byte h = record { seen = refl; store = refl; append = refl }
executed-reserved (Some word) view reserved span room byte h =
    rw (insn-reserved (decoded word) view reserved span room h)
    (perform-reserved (insn_action_of (decoded word) view span room) view reserved byte)

-- a register write leaves 32 registers of which the first is 0
pub set-regs : (regs : List ℕ) (n value : ℕ) → AreRegs regs → AreRegs (set regs n value)
set-regs regs n value h = (grind (arith, common_steps, nat_tests), grind (arith, common_steps, nat_tests))

-- and so does an instruction
perform-regs : (action : Action) (view : HartView) (byte : ℕ → ℕ) → AreRegs view.regs →
    AreRegs (view_after (perform action view byte) view).regs
perform-regs (actions.Trap cause) view byte h = h
perform-regs (actions.Exit code) view byte h = h
perform-regs (actions.Put rd value) view byte h = set-regs view.regs rd.number value h
perform-regs (actions.JumpAndLink rd target) view byte h = set-regs view.regs rd.number _ h
perform-regs (actions.Go target) view byte h = h
perform-regs (actions.Answer value) view byte h = set-regs view.regs a0 value h
perform-regs (actions.Append address len) view byte h = set-regs view.regs a0 len h
perform-regs (actions.Load width rd address) view byte h = set-regs view.regs rd.number _ h
perform-regs (actions.LoadReserved rd address) view byte h = set-regs view.regs rd.number _ h
perform-regs (actions.Store address len value) view byte h = h
perform-regs (actions.StoreConditional rd address value) view byte h = set-regs view.regs rd.number _ h
perform-regs (actions.Fail rd) view byte h = set-regs view.regs rd.number _ h
perform-regs (actions.Amo op rd address source) view byte h = set-regs view.regs rd.number _ h

pub executed-regs : (word : Option ℕ) (view : HartView) (span : Span) (room : ℕ) (byte : ℕ → ℕ) → AreRegs view.regs →
    AreRegs (view_after (executed word view span room byte) view).regs
unfolding executed
executed-regs word view span room byte h = perform-regs (action_at word view span room) view byte h

-- what is stored and appended is what the footprint writes and reads
pub record IsWithin (access : Access) (execution : Execution) : Type 0 where
  pub store : MatchOption (store_in execution) (IsNoWrite access) (λ store. access ≡ Write store.address store.len)
  pub append : IfSome (append_in execution) (λ append. access ≡ Read append.address append.len)

perform-within : (action : Action) (view : HartView) (byte : ℕ → ℕ) →
    IsWithin (footprint action) (perform action view byte)
perform-within (actions.Append address len) view byte = record { store = tt; append = refl }
perform-within (actions.Store address len value) view byte = record { store = refl; append = tt }
perform-within (actions.StoreConditional rd address value) view byte = record { store = refl; append = tt }
perform-within (actions.Amo op rd address source) view byte = record { store = refl; append = tt }
perform-within _ view byte = record { store = tt; append = tt }

insn-within : (insn : Option Insn) (view : HartView) (span : Span) (room : ℕ) (byte : ℕ → ℕ) →
    IsWithin (insn_touched insn view span room) (perform (insn_action_of insn view span room) view byte)
insn-within None view span room byte = record { store = tt; append = tt }
insn-within (Some insn) view span room byte =
    perform-within (action_of insn view.pc view.regs view.reserved span room) view byte

pub executed-within : (word : Option ℕ) (view : HartView) (span : Span) (room : ℕ) (byte : ℕ → ℕ) →
    IsWithin (touched word view span room) (executed word view span room byte)
unfolding executed
executed-within None view span room byte = record { store = tt; append = tt }
executed-within (Some word) view span room byte = insn-within (decoded word) view span room byte

-- an instruction that writes has passed its checks
checked-went : (span : Span) (address size misaligned outside : ℕ) (action : Action) (from len : ℕ) →
    footprint (checked_of span address size misaligned outside action) ≡ Write from len →
    checked_of span address size misaligned outside action ≡ action
checked-went span address size misaligned outside action from len =
    tested (address % size == 0) (holds span address size)
  where
    tested : (b c : Bool) →
        footprint (if b then (if c then action else actions.Trap outside) else actions.Trap misaligned) ≡ Write from
        len → (if b then (if c then action else actions.Trap outside) else actions.Trap misaligned) ≡ action
    tested true true h = refl
    tested true false h = cc
    tested false c h = cc

-- an atomic operation that does not trap writes a word, whatever the hart has reserved
pub amo-action : (word : ℕ) (op : AmoOp) (rd rs1 rs2 : Reg) (aq rl : Bool) (view : HartView) (span : Span)
    (room from len : ℕ) → decoded word ≡ Some (insns.Amo op rd rs1 rs2 aq rl) →
    touched (Some word) view span room ≡ Write from len → (from ≡ get view.regs rs1.number) × (len ≡ 4)
    × (action_at (Some word) view span room ≡ actions.Amo op rd from (get view.regs rs2.number))
unfolding action_of
amo-action word op rd rs1 rs2 aq rl view span room from len is writes =
    let address : ℕ = get view.regs rs1.number in
    let action : Action = actions.Amo op rd address (get view.regs rs2.number) in
    let writes = rw is at writes in
    let went : checked_of span address 4 store_address_misaligned store_access_fault action ≡ action =
    checked-went span address 4 _ _ action from len writes in
    let there : Write address 4 ≡ Write from len = rw went at writes in
    (cc, cc, rw is (cc went))

-- so what it touches and what it does do not depend on the reservation
pub amo-reserved : (word : ℕ) (op : AmoOp) (rd rs1 rs2 : Reg) (aq rl : Bool) (view : HartView) (reserved : Option ℕ)
    (span : Span) (room from len : ℕ)
    (byte : ℕ → ℕ) → decoded word ≡ Some (insns.Amo op rd rs1 rs2 aq rl) →
    touched (Some word) view span room ≡ Write from len →
    (touched (Some word) (record view { reserved = reserved }) span room ≡ Write from len)
    × (executed (Some word) (record view { reserved = reserved }) span room byte
    ≡ executed (Some word) view span room byte)
unfolding action_of executed
amo-reserved word op rd rs1 rs2 aq rl view reserved span room from len byte is writes =
    let other : HartView = record view { reserved = reserved } in
    let here = amo-action word op rd rs1 rs2 aq rl view span room from len is writes in
    let same : touched (Some word) other span room ≡ touched (Some word) view span room = rw is refl in
    let there = amo-action word op rd rs1 rs2 aq rl other span room from len is (same ∙ writes) in (
      same ∙ writes,
      ap (λ action. perform action other byte) there.2
          ∙ sym (ap (λ action. perform action view byte) here.2),
    )

-- a store that does not trap, likewise
pub store-action : (word : ℕ) (width : StoreWidth) (rs1 rs2 : Reg) (offset : ℤ) (view : HartView) (span : Span)
    (room from len : ℕ) → decoded word ≡ Some (insns.Store width rs1 rs2 offset) →
    touched (Some word) view span room ≡ Write from len →
    (from ≡ moved_of (get view.regs rs1.number) offset) × (len ≡ store_size_of width)
    × (action_at (Some word) view span room ≡ actions.Store from len (get view.regs rs2.number))
unfolding action_of
store-action word width rs1 rs2 offset view span room from len is writes =
    let address : ℕ = moved_of (get view.regs rs1.number) offset in
    let action : Action = actions.Store address (store_size_of width) (get view.regs rs2.number) in
    let writes = rw is at writes in
    let went : checked_of span address (store_size_of width) store_address_misaligned store_access_fault
    action ≡ action =
    checked-went span address (store_size_of width) _ _ action from len writes in
    let there : Write address (store_size_of width) ≡ Write from len = rw went at writes in
    (cc, cc, rw is (cc went))

-- the same bytes from two places on are the same number
pub loaded_from : (left right : ℕ → ℕ) (from start len : ℕ) →
    ((k : ℕ) → k < len → left (from + k) ≡ right (start + k)) →
    loaded left from len ≡ loaded right start len
loaded_from left right from start zero same = refl
loaded_from left right from start (suc len) same =
    let first : left from ≡ right start = ap left (omega arith) ∙ same 0 (omega arith) ∙ ap right (omega arith) in
    let rest : loaded left (from + 1) len ≡ loaded right (start + 1) len =
    loaded_from left right (from + 1) (start + 1) len
    (λ k below. ap left (omega arith) ∙ same (k + 1) (omega arith) ∙ ap right (omega arith)) in
    cc

-- a hart without a reservation loses none
pub unreserved-none : (line : ℕ) (view : HartView) → view.reserved ≡ None → unreserved line view ≡ view
unreserved-none line view none =
    ap (λ reserved. record view { reserved = reserved_off line reserved }) none
    ∙ sym (ap (λ reserved. record view { reserved = reserved }) none)
