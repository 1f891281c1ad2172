use Rattle.std.specs.Prelude.{◌≡◌, ℕ, IsTrue}
use Rattle.rv_word.specs.declared.insn.Insn.{Insn}
use Rattle.rv_word.specs.declared.insn.Insn.TheVariants.{Lui, Auipc, Jal, Jalr, Branch, Load, Store, OpImm, Op, Fence}
use Rattle.rv_word.specs.declared.insn.Insn.TheVariants.{Ecall, Ebreak, Lr, Sc, Amo}
use Rattle.rv_word.specs.Field.{opcode_of, rd_of, funct3_of, rs1_of, rs2_of, funct5_of, aq_of, rl_of}
use Rattle.rv_word.specs.Immediate.{imm_i, imm_s, imm_b, imm_u, imm_j}
use Rattle.rv_word.specs.Arithmetic.{is_op_row, is_op_imm_row, op_immediate}
use Rattle.rv_word.specs.Comparison.{test_code}
use Rattle.rv_word.specs.Load.{load_code}
use Rattle.rv_word.specs.Store.{store_code}
use Rattle.rv_word.specs.Atomic.{amo_code}

-- the word means the instruction: the listing of RV32I and of its M and A extensions (RISC-V unprivileged
-- manual, chapter 'RV32/64G Instruction Set Listings'). Every FENCE is one and the same, whatever
-- it orders; a word that fits no row means nothing
abbrev pub Means : ℕ → Insn → Type 0
Means word (Lui rd imm) =
    (opcode_of word ≡ 0b0110111) × (rd ≡ rd_of word) × (imm ≡ imm_u word)
Means word (Auipc rd imm) =
    (opcode_of word ≡ 0b0010111) × (rd ≡ rd_of word) × (imm ≡ imm_u word)
Means word (Jal rd offset) =
    (opcode_of word ≡ 0b1101111) × (rd ≡ rd_of word) × (offset ≡ imm_j word)
Means word (Jalr rd rs1 offset) =
    (opcode_of word ≡ 0b1100111) × (funct3_of word ≡ 0b000)
    × (rd ≡ rd_of word) × (rs1 ≡ rs1_of word) × (offset ≡ imm_i word)
Means word (Branch test rs1 rs2 offset) =
    (opcode_of word ≡ 0b1100011) × (funct3_of word ≡ test_code test)
    × (rs1 ≡ rs1_of word) × (rs2 ≡ rs2_of word) × (offset ≡ imm_b word)
Means word (Load width rd rs1 offset) =
    (opcode_of word ≡ 0b0000011) × (funct3_of word ≡ load_code width)
    × (rd ≡ rd_of word) × (rs1 ≡ rs1_of word) × (offset ≡ imm_i word)
Means word (Store width rs1 rs2 offset) =
    (opcode_of word ≡ 0b0100011) × (funct3_of word ≡ store_code width)
    × (rs1 ≡ rs1_of word) × (rs2 ≡ rs2_of word) × (offset ≡ imm_s word)
Means word (OpImm op rd rs1 imm) =
    (opcode_of word ≡ 0b0010011) × IsTrue (is_op_imm_row word op)
    × (rd ≡ rd_of word) × (rs1 ≡ rs1_of word) × (imm ≡ op_immediate word op)
Means word (Op op rd rs1 rs2) =
    (opcode_of word ≡ 0b0110011) × IsTrue (is_op_row word op)
    × (rd ≡ rd_of word) × (rs1 ≡ rs1_of word) × (rs2 ≡ rs2_of word)
Means word Fence =
    (opcode_of word ≡ 0b0001111) × (funct3_of word ≡ 0b000)
Means word Ecall = word ≡ 0x00000073
Means word Ebreak = word ≡ 0x00100073
Means word (Lr rd rs1 aq rl) =
    (opcode_of word ≡ 0b0101111) × (funct3_of word ≡ 0b010) × (funct5_of word ≡ 0b00010) × ((rs2_of word).number ≡ 0)
    × (rd ≡ rd_of word) × (rs1 ≡ rs1_of word) × (aq ≡ aq_of word) × (rl ≡ rl_of word)
Means word (Sc rd rs1 rs2 aq rl) =
    (opcode_of word ≡ 0b0101111) × (funct3_of word ≡ 0b010) × (funct5_of word ≡ 0b00011)
    × (rd ≡ rd_of word) × (rs1 ≡ rs1_of word) × (rs2 ≡ rs2_of word)
    × (aq ≡ aq_of word) × (rl ≡ rl_of word)
Means word (Amo op rd rs1 rs2 aq rl) =
    (opcode_of word ≡ 0b0101111) × (funct3_of word ≡ 0b010) × (funct5_of word ≡ amo_code op)
    × (rd ≡ rd_of word) × (rs1 ≡ rs1_of word) × (rs2 ≡ rs2_of word)
    × (aq ≡ aq_of word) × (rl ≡ rl_of word)
