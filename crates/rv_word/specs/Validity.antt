use Rattle.std.specs.Prelude.{◌≡◌, ℕ, ◌-◌, ◌%◌, ◌^◌, ℤ, pos, negsuc, ◌≤ℤ◌, ◌<ℤ◌, unsigned_abs}
use Rattle.rv_word.specs.declared.insn.Alu.{Alu}
use Rattle.rv_word.specs.declared.insn.Alu.TheVariants.{Add, Sll, Slt, Sltu, Xor, Srl, Sra, Or, And}
use Rattle.rv_word.specs.declared.insn.Insn.{Insn}
use Rattle.rv_word.specs.declared.insn.Insn.TheVariants.{Lui, Auipc, Jal, Jalr, Branch, Load, Store, OpImm}

-- the number fits two's complement of `width` bits
abbrev pub FitsSignedBits : ℕ → ℤ → Type 0
FitsSignedBits width z = (negsuc (2 ^ (width - 1) - 1) ≤ℤ z) × (z <ℤ pos (2 ^ (width - 1)))

abbrev pub IsEven : ℤ → Type 0
IsEven z = unsigned_abs z % 2 ≡ 0

-- the immediates that an operation may have: a shift's are 0 to 31; subtraction, and the
-- operations of the M extension, have none
abbrev pub IsOpImmediate : Alu → ℤ → Type 0
IsOpImmediate Sll imm = (pos 0 ≤ℤ imm) × (imm <ℤ pos 32)
IsOpImmediate Srl imm = (pos 0 ≤ℤ imm) × (imm <ℤ pos 32)
IsOpImmediate Sra imm = (pos 0 ≤ℤ imm) × (imm <ℤ pos 32)
IsOpImmediate Add imm = FitsSignedBits 12 imm
IsOpImmediate Slt imm = FitsSignedBits 12 imm
IsOpImmediate Sltu imm = FitsSignedBits 12 imm
IsOpImmediate Xor imm = FitsSignedBits 12 imm
IsOpImmediate Or imm = FitsSignedBits 12 imm
IsOpImmediate And imm = FitsSignedBits 12 imm
IsOpImmediate _ imm = ⊥

-- the immediates fit their forms, so that there is a word that means the instruction
abbrev pub Valid : Insn → Type 0
Valid (Lui rd imm) = imm % 2 ^ 12 ≡ 0
Valid (Auipc rd imm) = imm % 2 ^ 12 ≡ 0
Valid (Jal rd offset) = FitsSignedBits 21 offset × IsEven offset
Valid (Jalr rd rs1 offset) = FitsSignedBits 12 offset
Valid (Branch test rs1 rs2 offset) = FitsSignedBits 13 offset × IsEven offset
Valid (Load width rd rs1 offset) = FitsSignedBits 12 offset
Valid (Store width rs1 rs2 offset) = FitsSignedBits 12 offset
Valid (OpImm op rd rs1 imm) = IsOpImmediate op imm
Valid _ = Unit {0}
