-- the actions of an LR, and of an SC that succeeds
use Rattle.std.proofs.Common.{◌≡◌, ◌%◌, ℕ, Bool, true, false, Option, None, Some, refl, if◌then◌else◌, ◌==◌}
use Rattle.elf_image.specs.Program.{code_word}
use Rattle.rv_alu.specs.Action.{action_at, action_of, has_reserved_of}
use Rattle.rv_alu.specs.Execution.{insn_at, touched}
use Rattle.rv_alu.specs.Footprint.{footprint}
use Rattle.rv_alu.specs.Regs.{get}
use Rattle.rv_alu.specs.Span.{holds}
use Rattle.rv_alu.specs.declared.action.Action.TheVariants as actions
use Rattle.rv_alu.specs.declared.footprint.Access.TheVariants.{Read, Write}
use Rattle.rv_alu.specs.declared.span.Span.{Span}
use Rattle.rv_alu.specs.declared.view.HartView.{HartView}
use Rattle.rv_flat.specs.FlatState.{FlatState, room_of, span_of, view_of}
use Rattle.rv_flat.specs.Laws.{touched_by}
use Rattle.rv_flat.specs.Step as flat_step
use Rattle.rv_word.specs.Decoding.{decoded}
use Rattle.rv_word.specs.declared.insn.Insn.TheVariants as insns
use Rattle.rv_word.specs.declared.reg.Reg.{Reg}
use Rattle.run_laws.proofs.Laws.Reserving.{completes_by, reserves}
use Rattle.section_view.specs.ArmedLaws.{ConditionalsAct, ReservesAct}

-- one that reads or writes has passed its checks
lr_acts : (word : ℕ) (rd rs1 : Reg) (aq rl : Bool) (view : HartView) (span : Span) (room from : ℕ) →
    decoded word ≡ Some (insns.Lr rd rs1 aq rl) → touched (Some word) view span room ≡ Read from 4 →
    action_at (Some word) view span room ≡ actions.LoadReserved rd from
unfolding action_of
lr_acts word rd rs1 aq rl view span room from is reads =
    let address : ℕ = get view.regs rs1.number in
    rw is (tested (address % 4 == 0) (holds span address 4) address _ _ (rw is at reads))
  where
    tested : (b c : Bool) (address misaligned outside : ℕ) →
        footprint (if b then (if c then actions.LoadReserved rd address else actions.Trap outside)
        else actions.Trap misaligned) ≡ Read from 4 →
        (if b then (if c then actions.LoadReserved rd address else actions.Trap outside) else actions.Trap misaligned)
        ≡ actions.LoadReserved rd from
    tested true true address misaligned outside h = cc
    tested true false address misaligned outside h = absurd (cc)
    tested false c address misaligned outside h = absurd (cc)

sc_acts : (word : ℕ) (rd rs1 rs2 : Reg) (aq rl : Bool) (view : HartView) (span : Span) (room from : ℕ) →
    decoded word ≡ Some (insns.Sc rd rs1 rs2 aq rl) → touched (Some word) view span room ≡ Write from 4 →
    action_at (Some word) view span room ≡ actions.StoreConditional rd from (get view.regs rs2.number)
unfolding action_of
sc_acts word rd rs1 rs2 aq rl view span room from is writes =
    let address : ℕ = get view.regs rs1.number in
    rw is
    (tested (address % 4 == 0) (holds span address 4) (has_reserved_of view.reserved address) address
    (get view.regs rs2.number) _ _
    (rw is at writes))
  where
    tested : (b c d : Bool) (address value misaligned outside : ℕ) →
        footprint
        (if b then (if c then (if d then actions.StoreConditional rd address value else actions.Fail rd)
        else actions.Trap outside)
        else actions.Trap misaligned) ≡ Write from 4 →
        (if b then (if c then (if d then actions.StoreConditional rd address value else actions.Fail rd)
        else actions.Trap outside)
        else actions.Trap misaligned) ≡ actions.StoreConditional rd from value
    tested true true true address value misaligned outside h = cc
    tested true true false address value misaligned outside h = absurd (cc)
    tested true false d address value misaligned outside h = absurd (cc)
    tested false c d address value misaligned outside h = absurd (cc)

-- of the instruction that comes next
reserve_acts : (found : Option ℕ) (state : FlatState) (view : HartView) (rd rs1 : Reg) (aq rl : Bool) (from : ℕ) →
    code_word state.code view.pc ≡ found → insn_at found ≡ Some (insns.Lr rd rs1 aq rl) →
    touched_by state view ≡ Read from 4 → flat_step.action_of state view ≡ actions.LoadReserved rd from
reserve_acts None state view rd rs1 aq rl from here is reads = absurd (cc)
reserve_acts (Some word) state view rd rs1 aq rl from here is reads =
    rw here (lr_acts word rd rs1 aq rl view (span_of state) (room_of state) from is (rw here at reads))

conditional_acts : (found : Option ℕ) (state : FlatState) (view : HartView) (rd rs1 rs2 : Reg) (aq rl : Bool)
    (from : ℕ) → code_word state.code view.pc ≡ found → insn_at found ≡ Some (insns.Sc rd rs1 rs2 aq rl) →
    touched_by state view ≡ Write from 4 →
    flat_step.action_of state view ≡ actions.StoreConditional rd from (get view.regs rs2.number)
conditional_acts None state view rd rs1 rs2 aq rl from here is writes = absurd (cc)
conditional_acts (Some word) state view rd rs1 rs2 aq rl from here is writes =
    rw here (sc_acts word rd rs1 rs2 aq rl view (span_of state) (room_of state) from is (rw here at writes))

pub reserves_act : ReservesAct
reserves_act committed h word rd rs1 aq rl is means =
    let view = view_of committed h in
    reserve_acts (code_word committed.code view.pc) committed view rd rs1 aq rl word refl means
    (reserves committed h word is).reads

pub conditionals_act : ConditionalsAct
conditionals_act committed h swap rd rs1 rs2 aq rl is means =
    let view = view_of committed h in
    conditional_acts (code_word committed.code view.pc) committed view rd rs1 rs2 aq rl swap.word refl means
    (completes_by committed h swap is).stores.writes
