-- of which instruction an action comes
use Rattle.std.proofs.Common.{◌≡◌, ℕ, ◌%◌, ◌-◌, Bool, true, false, List, Option, Some, refl}
use Rattle.std.specs.Prelude.{◌==◌, ◌||◌, if◌then◌else◌, not}
use Rattle.el_base.specs.declared.line.TheConstants.{LINE_BYTES}
use Rattle.el_model.specs.Upcoming.{is_load_reserved, is_store_conditional, is_swap, is_swap_op, is_word_store}
use Rattle.rv_alu.specs.Action.{action_of, checked_of, has_reserved_of, indirect_of, jump_of}
use Rattle.rv_alu.specs.Cause.{instruction_address_misaligned}
use Rattle.rv_alu.specs.Footprint.{is_call}
use Rattle.rv_alu.specs.Operation.{moved_of, taken_of}
use Rattle.rv_alu.specs.Regs.{a0, a1, a2, a7, get}
use Rattle.rv_alu.specs.Span.{holds}
use Rattle.rv_alu.specs.Syscall.{call_of, exit_number, write_call_of, write_number}
use Rattle.rv_alu.specs.declared.action.Action.{Action}
use Rattle.rv_alu.specs.declared.action.Action.TheVariants as actions
use Rattle.rv_alu.specs.declared.span.Span.{Span}
use Rattle.rv_word.specs.declared.insn.Insn.{Insn}
use Rattle.rv_word.specs.declared.insn.Insn.TheVariants as insns
use Rattle.rv_word.specs.declared.insn.StoreWidth.TheVariants as widths

-- what an instruction is: a store of a word, a swap, an LR, an SC, a call, or none of these
pub record Facts : Type 0 where
  pub word_store : Bool
  pub swap : Bool
  pub reserve : Bool
  pub conditional : Bool
  pub call : Bool

abbrev pub facts_of : Insn → Facts
facts_of insn = record {
  word_store = is_word_store (Some insn);
  swap = is_swap (Some insn);
  reserve = is_load_reserved (Some insn);
  conditional = is_store_conditional (Some insn);
  call = is_call insn;
}

abbrev no_facts : Facts
no_facts = record { word_store = false; swap = false; reserve = false; conditional = false; call = false }

-- what an action that does not trap tells of its instruction: only SW stores all of a word and is no
-- atomic operation, only a swap or an SC exchanges one, only an LR reserves one, only an SC fails, and
-- only a call exits, answers or appends
abbrev pub facts_by : Action → Facts
facts_by (actions.Exit code) = record no_facts { call = true }
facts_by (actions.Answer value) = record no_facts { call = true }
facts_by (actions.Append address len) = record no_facts { call = true }
facts_by (actions.LoadReserved rd address) = record no_facts { reserve = true }
facts_by (actions.Store address len value) = record no_facts { word_store = len == 4 }
facts_by (actions.StoreConditional rd address value) = record no_facts { conditional = true }
facts_by (actions.Fail rd) = record no_facts { conditional = true }
facts_by (actions.Amo op rd address source) = record no_facts { swap = is_swap_op op }
facts_by _ = no_facts

abbrev pub ComesOf : Insn → Action → Type 0
ComesOf insn (actions.Trap cause) = Unit {0}
ComesOf insn action = facts_of insn ≡ facts_by action

-- one of two actions
comes-if : (insn : Insn) (b : Bool) (x y : Action) → ComesOf insn x → ComesOf insn y → ComesOf insn (if b then x else y)
comes-if insn true x y of_x of_y = of_x
comes-if insn false x y of_x of_y = of_y

comes-jump : (insn : Insn) (target : ℕ) (action : Action) → ComesOf insn action → ComesOf insn (jump_of target action)
comes-jump insn target action of =
    comes-if insn (target % 4 == 0) action (actions.Trap instruction_address_misaligned) of tt

comes-checked : (insn : Insn) (span : Span) (address size misaligned outside : ℕ) (action : Action) →
    ComesOf insn action → ComesOf insn (checked_of span address size misaligned outside action)
comes-checked insn span address size misaligned outside action of =
    comes-if insn (address % size == 0) (if holds span address size then action else actions.Trap outside)
    (actions.Trap misaligned)
    (comes-if insn (holds span address size) action (actions.Trap outside) of tt) tt

comes-write : (regs : List ℕ) (span : Span) (room : ℕ) → ComesOf insns.Ecall (write_call_of regs span room)
comes-write regs span room =
    comes-if insns.Ecall (not ((get regs a0 == 1) || (get regs a0 == 2))) _ _ refl
    (comes-if insns.Ecall (get regs a2 == 0) _ _ refl
    (comes-if insns.Ecall (not (holds span (get regs a1 - get regs a1 % LINE_BYTES) LINE_BYTES)) _ _ refl
    (comes-if insns.Ecall (room == 0) _ _ refl refl)))

comes-call : (regs : List ℕ) (span : Span) (room : ℕ) → ComesOf insns.Ecall (call_of regs span room)
comes-call regs span room =
    comes-if insns.Ecall (get regs a7 == exit_number) _ _ refl
    (comes-if insns.Ecall (get regs a7 == write_number) _ _ (comes-write regs span room) refl)

-- each action comes of its instruction
pub comes : (insn : Insn) (pc : ℕ) (regs : List ℕ) (reserved : Option ℕ) (span : Span) (room : ℕ) →
    ComesOf insn (action_of insn pc regs reserved span room)
unfolding action_of
comes (insns.Lui rd imm) pc regs reserved span room = refl
comes (insns.Auipc rd imm) pc regs reserved span room = refl
comes (insns.Jal rd offset) pc regs reserved span room =
    comes-jump (insns.Jal rd offset) (moved_of pc offset) (actions.JumpAndLink rd (moved_of pc offset)) refl
comes (insns.Jalr rd rs1 offset) pc regs reserved span room =
    let target = indirect_of (moved_of (get regs rs1.number) offset) in
    comes-jump (insns.Jalr rd rs1 offset) target (actions.JumpAndLink rd target) refl
comes (insns.Branch test rs1 rs2 offset) pc regs reserved span room =
    let insn = insns.Branch test rs1 rs2 offset in
    comes-if insn (taken_of test (get regs rs1.number) (get regs rs2.number)) _ _
    (comes-jump insn (moved_of pc offset) (actions.Go (moved_of pc offset)) refl) refl
comes (insns.Load width rd rs1 offset) pc regs reserved span room =
    comes-checked (insns.Load width rd rs1 offset) span _ _ _ _ _ refl
comes (insns.Store widths.Byte rs1 rs2 offset) pc regs reserved span room =
    comes-checked (insns.Store widths.Byte rs1 rs2 offset) span _ _ _ _ _ refl
comes (insns.Store widths.Half rs1 rs2 offset) pc regs reserved span room =
    comes-checked (insns.Store widths.Half rs1 rs2 offset) span _ _ _ _ _ refl
comes (insns.Store widths.Word rs1 rs2 offset) pc regs reserved span room =
    comes-checked (insns.Store widths.Word rs1 rs2 offset) span _ _ _ _ _ refl
comes (insns.OpImm op rd rs1 imm) pc regs reserved span room = refl
comes (insns.Op op rd rs1 rs2) pc regs reserved span room = refl
comes insns.Fence pc regs reserved span room = refl
comes insns.Ecall pc regs reserved span room = comes-call regs span room
comes insns.Ebreak pc regs reserved span room = tt
comes (insns.Lr rd rs1 aq rl) pc regs reserved span room = comes-checked (insns.Lr rd rs1 aq rl) span _ _ _ _ _ refl
comes (insns.Sc rd rs1 rs2 aq rl) pc regs reserved span room =
    let insn = insns.Sc rd rs1 rs2 aq rl in
    comes-checked insn span _ _ _ _ _
    (comes-if insn (has_reserved_of reserved (get regs rs1.number)) _ _ refl refl)
comes (insns.Amo op rd rs1 rs2 aq rl) pc regs reserved span room =
    comes-checked (insns.Amo op rd rs1 rs2 aq rl) span _ _ _ _ _ refl
