use Rattle.std.specs.Prelude.{ℕ, ℤ, pos, Bool, false, ◌==◌, ◌&&◌, Option, List, [], ◌∷◌, find}
use Rattle.rv_word.specs.declared.insn.Alu.{Alu}
use Rattle.rv_word.specs.declared.insn.Alu.TheVariants.{Add, Sub, Sll, Slt, Sltu, Xor, Srl, Sra, Or, And, Mul, Mulh}
use Rattle.rv_word.specs.declared.insn.Alu.TheVariants.{Mulhsu, Mulhu, Div, Divu, Rem, Remu}
use Rattle.rv_word.specs.Field.{funct3_of, funct7_of}
use Rattle.rv_word.specs.Immediate.{imm_i, shamt_of}

-- the rows of the operations between two registers; those of the M extension have funct7 0000001
abbrev pub is_op_row : ℕ → Alu → Bool
is_op_row word Add = funct3_of word == 0b000 && funct7_of word == 0b0000000
is_op_row word Sub = funct3_of word == 0b000 && funct7_of word == 0b0100000
is_op_row word Sll = funct3_of word == 0b001 && funct7_of word == 0b0000000
is_op_row word Slt = funct3_of word == 0b010 && funct7_of word == 0b0000000
is_op_row word Sltu = funct3_of word == 0b011 && funct7_of word == 0b0000000
is_op_row word Xor = funct3_of word == 0b100 && funct7_of word == 0b0000000
is_op_row word Srl = funct3_of word == 0b101 && funct7_of word == 0b0000000
is_op_row word Sra = funct3_of word == 0b101 && funct7_of word == 0b0100000
is_op_row word Or = funct3_of word == 0b110 && funct7_of word == 0b0000000
is_op_row word And = funct3_of word == 0b111 && funct7_of word == 0b0000000
is_op_row word Mul = funct3_of word == 0b000 && funct7_of word == 0b0000001
is_op_row word Mulh = funct3_of word == 0b001 && funct7_of word == 0b0000001
is_op_row word Mulhsu = funct3_of word == 0b010 && funct7_of word == 0b0000001
is_op_row word Mulhu = funct3_of word == 0b011 && funct7_of word == 0b0000001
is_op_row word Div = funct3_of word == 0b100 && funct7_of word == 0b0000001
is_op_row word Divu = funct3_of word == 0b101 && funct7_of word == 0b0000001
is_op_row word Rem = funct3_of word == 0b110 && funct7_of word == 0b0000001
is_op_row word Remu = funct3_of word == 0b111 && funct7_of word == 0b0000001

-- the rows of the operations with an immediate
abbrev pub is_op_imm_row : ℕ → Alu → Bool
is_op_imm_row word Add = funct3_of word == 0b000
is_op_imm_row word Sll = funct3_of word == 0b001 && funct7_of word == 0b0000000
is_op_imm_row word Slt = funct3_of word == 0b010
is_op_imm_row word Sltu = funct3_of word == 0b011
is_op_imm_row word Xor = funct3_of word == 0b100
is_op_imm_row word Srl = funct3_of word == 0b101 && funct7_of word == 0b0000000
is_op_imm_row word Sra = funct3_of word == 0b101 && funct7_of word == 0b0100000
is_op_imm_row word Or = funct3_of word == 0b110
is_op_imm_row word And = funct3_of word == 0b111
is_op_imm_row word _ = false

-- their immediate: a shift's amount stands in the place of rs2
abbrev pub op_immediate : ℕ → Alu → ℤ
op_immediate word Sll = pos (shamt_of word)
op_immediate word Srl = pos (shamt_of word)
op_immediate word Sra = pos (shamt_of word)
op_immediate word _ = imm_i word

abbrev all_alu : List Alu
all_alu =
    Add ∷ Sub ∷ Sll ∷ Slt ∷ Sltu ∷ Xor ∷ Srl ∷ Sra ∷ Or ∷ And
    ∷ Mul ∷ Mulh ∷ Mulhsu ∷ Mulhu ∷ Div ∷ Divu ∷ Rem ∷ Remu ∷ []

-- the operation between registers that the word's row names, or none
unfoldable pub op_at : ℕ → Option Alu
op_at word = find (is_op_row word) all_alu

-- the operation with an immediate that the word's row names, or none
unfoldable pub op_imm_at : ℕ → Option Alu
op_imm_at word = find (is_op_imm_row word) all_alu
