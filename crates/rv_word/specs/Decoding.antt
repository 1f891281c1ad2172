use Rattle.std.specs.Prelude.{ℕ, Option, Some, None, option_map, ◌==◌, ◌&&◌, if◌then◌else◌}
use Rattle.rv_word.specs.declared.insn.Insn.{Insn}
use Rattle.rv_word.specs.declared.insn.Insn.TheVariants.{Lui, Auipc, Jal, Jalr, Branch, Load, Store, OpImm, Op, Fence}
use Rattle.rv_word.specs.declared.insn.Insn.TheVariants.{Ecall, Ebreak, Lr, Sc, Amo}
use Rattle.rv_word.specs.Field.{opcode_of, rd_of, funct3_of, rs1_of, rs2_of, funct5_of, aq_of, rl_of}
use Rattle.rv_word.specs.Immediate.{imm_i, imm_s, imm_b, imm_u, imm_j}
use Rattle.rv_word.specs.Arithmetic.{op_at, op_imm_at, op_immediate}
use Rattle.rv_word.specs.Comparison.{test_at}
use Rattle.rv_word.specs.Load.{load_width_at}
use Rattle.rv_word.specs.Store.{store_width_at}
use Rattle.rv_word.specs.Atomic.{amo_at}

-- the instruction of a word of one opcode, where another field chooses the operation
abbrev pub branch_at : ℕ → Option Insn
branch_at word = option_map (λ test. Branch test (rs1_of word) (rs2_of word) (imm_b word)) (test_at (funct3_of word))

abbrev pub load_at : ℕ → Option Insn
load_at word = option_map (λ width. Load width (rd_of word) (rs1_of word) (imm_i word)) (load_width_at (funct3_of word))

abbrev pub store_at : ℕ → Option Insn
store_at word =
    option_map (λ width. Store width (rs1_of word) (rs2_of word) (imm_s word)) (store_width_at (funct3_of word))

abbrev pub op_imm_insn_at : ℕ → Option Insn
op_imm_insn_at word = option_map (λ op. OpImm op (rd_of word) (rs1_of word) (op_immediate word op)) (op_imm_at word)

abbrev pub op_insn_at : ℕ → Option Insn
op_insn_at word = option_map (λ op. Op op (rd_of word) (rs1_of word) (rs2_of word)) (op_at word)

abbrev pub lr_at : ℕ → Option Insn
lr_at word = if (rs2_of word).number == 0 then Some (Lr (rd_of word) (rs1_of word) (aq_of word) (rl_of word)) else None

abbrev pub amo_insn_at : ℕ → Option Insn
amo_insn_at word =
    option_map (λ op. Amo op (rd_of word) (rs1_of word) (rs2_of word) (aq_of word) (rl_of word))
    (amo_at (funct5_of word))

abbrev pub atomic_at : ℕ → Option Insn
atomic_at word =
    if funct5_of word == 0b00010 then lr_at word
    else if funct5_of word == 0b00011 then Some (Sc (rd_of word) (rs1_of word) (rs2_of word) (aq_of word) (rl_of word))
    else amo_insn_at word

-- the instruction that a word means, or none: `Means` as a function
unfoldable pub decoded : ℕ → Option Insn
decoded word =
    if opcode_of word == 0b0110111 then Some (Lui (rd_of word) (imm_u word))
    else if opcode_of word == 0b0010111 then Some (Auipc (rd_of word) (imm_u word))
    else if opcode_of word == 0b1101111 then Some (Jal (rd_of word) (imm_j word))
    else if opcode_of word == 0b1100111 && funct3_of word == 0b000
    then Some (Jalr (rd_of word) (rs1_of word) (imm_i word))
    else if opcode_of word == 0b1100011 then branch_at word
    else if opcode_of word == 0b0000011 then load_at word
    else if opcode_of word == 0b0100011 then store_at word
    else if opcode_of word == 0b0010011 then op_imm_insn_at word
    else if opcode_of word == 0b0110011 then op_insn_at word
    else if opcode_of word == 0b0001111 && funct3_of word == 0b000 then Some Fence
    else if word == 0x00000073 then Some Ecall
    else if word == 0x00100073 then Some Ebreak
    else if opcode_of word == 0b0101111 && funct3_of word == 0b010 then atomic_at word
    else None
