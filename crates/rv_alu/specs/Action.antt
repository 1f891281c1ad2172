-- what an instruction does, with its registers read and its checks made, before anything happens
use Rattle.std.specs.Prelude.{ℕ, ℤ, Bool, false, ◌-◌, ◌%◌, ◌==◌, if◌then◌else◌, List, Option, None, Some}
use Rattle.std.specs.Int.{cast_unsigned, w32}
use Rattle.rv_word.specs.Decoding.{decoded}
use Rattle.rv_word.specs.declared.insn.AmoOp.{AmoOp}
use Rattle.rv_word.specs.declared.insn.Insn.{Insn}
use Rattle.rv_word.specs.declared.insn.Insn.TheVariants as insns
use Rattle.rv_word.specs.declared.insn.LoadWidth.{LoadWidth}
use Rattle.rv_word.specs.declared.insn.LoadWidth.TheVariants as loads
use Rattle.rv_word.specs.declared.insn.StoreWidth.{StoreWidth}
use Rattle.rv_word.specs.declared.insn.StoreWidth.TheVariants as stores
use Rattle.rv_word.specs.declared.reg.Reg.{Reg}
use Rattle.rv_alu.specs.declared.action.Action.{Action}
use Rattle.rv_alu.specs.declared.action.Action.TheVariants.{Trap, Put, JumpAndLink, Go, Load, LoadReserved, Store}
use Rattle.rv_alu.specs.declared.action.Action.TheVariants.{StoreConditional, Fail, Amo}
use Rattle.rv_alu.specs.declared.span.Span.{Span}
use Rattle.rv_alu.specs.declared.view.HartView.{HartView}
use Rattle.rv_alu.specs.Cause.{breakpoint, illegal_instruction, instruction_access_fault}
use Rattle.rv_alu.specs.Cause.{instruction_address_misaligned, load_access_fault}
use Rattle.rv_alu.specs.Cause.{load_address_misaligned, store_access_fault, store_address_misaligned}
use Rattle.rv_alu.specs.Operation.{alu_of, moved_of, plus, taken_of}
use Rattle.rv_alu.specs.Regs.{get}
use Rattle.rv_alu.specs.Span.{holds}
use Rattle.rv_alu.specs.Syscall.{call_of}

-- how many bytes a load reads
abbrev pub load_size_of : LoadWidth → ℕ
load_size_of loads.Byte = 1
load_size_of loads.Half = 2
load_size_of loads.Word = 4
load_size_of loads.ByteU = 1
load_size_of loads.HalfU = 2

-- how many bytes a store writes
abbrev pub store_size_of : StoreWidth → ℕ
store_size_of stores.Byte = 1
store_size_of stores.Half = 2
store_size_of stores.Word = 4

-- the pc of the next instruction in memory
abbrev pub next_pc_of : ℕ → ℕ
next_pc_of pc = plus pc 4

-- the target of JALR: the lowest bit of the sum is cleared
abbrev pub indirect_of : ℕ → ℕ
indirect_of sum = sum - sum % 2

-- a jump traps where its target is no multiple of 4
abbrev pub jump_of : ℕ → Action → Action
jump_of target action = if target % 4 == 0 then action else Trap instruction_address_misaligned

-- a branch, taken or not
abbrev pub branch_of : ℕ → Bool → ℤ → Action
branch_of pc takes offset =
    let target = moved_of pc offset in if takes then jump_of target (Go target) else Go (next_pc_of pc)

-- an access to so many bytes traps where its address is no multiple of them, and then where they are not
-- all in memory
abbrev pub checked_of : Span → ℕ → ℕ → ℕ → ℕ → Action → Action
checked_of span address size misaligned outside action =
    if address % size == 0 then (if holds span address size then action else Trap outside) else Trap misaligned

abbrev pub load_of : Span → ℕ → ℕ → Action → Action
load_of span address size action = checked_of span address size load_address_misaligned load_access_fault action

abbrev pub store_of : Span → ℕ → ℕ → Action → Action
store_of span address size action = checked_of span address size store_address_misaligned store_access_fault action

-- a store of the low bytes of a value, and an atomic operation on a word
abbrev pub store_value_of : Span → ℕ → ℕ → ℕ → Action
store_value_of span address size value = store_of span address size (Store address size value)

abbrev pub update_of : Span → AmoOp → Reg → ℕ → ℕ → Action
update_of span op rd address source = store_of span address 4 (Amo op rd address source)

-- whether a word is the one that the hart reserved
abbrev pub has_reserved_of : Option ℕ → ℕ → Bool
has_reserved_of None address = false
has_reserved_of (Some word) address = word == address

-- a store conditional stores only where its word is reserved
abbrev pub conditional_of : Option ℕ → Reg → ℕ → ℕ → Action
conditional_of reserved rd address value =
    if has_reserved_of reserved address then StoreConditional rd address value else Fail rd

-- an instruction of a hart that has this pc, these registers and this reservation
unfoldable pub action_of : Insn → ℕ → List ℕ → Option ℕ → Span → ℕ → Action
action_of (insns.Lui rd imm) pc regs reserved span room = Put rd imm
action_of (insns.Auipc rd imm) pc regs reserved span room = Put rd (plus pc imm)
action_of (insns.Jal rd offset) pc regs reserved span room =
    let target = moved_of pc offset in jump_of target (JumpAndLink rd target)
action_of (insns.Jalr rd rs1 offset) pc regs reserved span room =
    let target = indirect_of (moved_of (get regs rs1.number) offset) in jump_of target (JumpAndLink rd target)
action_of (insns.Branch test rs1 rs2 offset) pc regs reserved span room =
    branch_of pc (taken_of test (get regs rs1.number) (get regs rs2.number)) offset
action_of (insns.Load width rd rs1 offset) pc regs reserved span room =
    let address =
    moved_of (get regs rs1.number) offset in load_of span address (load_size_of width) (Load width rd address)
action_of (insns.Store width rs1 rs2 offset) pc regs reserved span room =
    store_value_of span (moved_of (get regs rs1.number) offset) (store_size_of width) (get regs rs2.number)
action_of (insns.OpImm op rd rs1 imm) pc regs reserved span room =
    Put rd (alu_of op (get regs rs1.number) (cast_unsigned w32 imm))
action_of (insns.Op op rd rs1 rs2) pc regs reserved span room =
    Put rd (alu_of op (get regs rs1.number) (get regs rs2.number))
action_of insns.Fence pc regs reserved span room = Go (next_pc_of pc)
action_of insns.Ecall pc regs reserved span room = call_of regs span room
action_of insns.Ebreak pc regs reserved span room = Trap breakpoint
action_of (insns.Lr rd rs1 aq rl) pc regs reserved span room =
    let address = get regs rs1.number in load_of span address 4 (LoadReserved rd address)
action_of (insns.Sc rd rs1 rs2 aq rl) pc regs reserved span room =
    let address = get regs rs1.number in
    store_of span address 4 (conditional_of reserved rd address (get regs rs2.number))
action_of (insns.Amo op rd rs1 rs2 aq rl) pc regs reserved span room =
    update_of span op rd (get regs rs1.number) (get regs rs2.number)

-- the instruction that a hart has come to, where the word at its pc is one
abbrev pub insn_action_of : Option Insn → HartView → Span → ℕ → Action
insn_action_of None view span room = Trap illegal_instruction
insn_action_of (Some insn) view span room = action_of insn view.pc view.regs view.reserved span room

-- what a hart does next, by the word at its pc, where there is one
abbrev pub action_at : Option ℕ → HartView → Span → ℕ → Action
action_at None view span room = Trap instruction_access_fault
action_at (Some word) view span room = insn_action_of (decoded word) view span room
