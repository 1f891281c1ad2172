use Rattle.std.specs.Prelude.{ℕ, ◌/◌, ◌%◌, ◌^◌, Bool, ◌==◌}
use Rattle.std.proofs.Common.{lit<}
use Rattle.std.proofs.Math.Nat.{mod-lt}
use Rattle.rv_word.specs.declared.reg.Reg.{Reg}

-- the number that stands in `width` bits of a word, the lowest of them bit `low`
abbrev pub field : ℕ → ℕ → ℕ → ℕ
field low width word = word / 2 ^ low % 2 ^ width

-- the register whose number stands in five bits of a word
unfoldable pub reg_field : ℕ → ℕ → Reg
reg_field low word = record { number = field low 5 word; small = mod-lt (word / 2 ^ low) {m = 32} (lit< tt) }

-- the fields of an instruction word (RISC-V unprivileged manual, chapter 2, 'Base Instruction
-- Formats'; the last three in the chapter on atomic instructions)
abbrev pub opcode_of : ℕ → ℕ
opcode_of word = field 0 7 word

abbrev pub rd_of : ℕ → Reg
rd_of word = reg_field 7 word

abbrev pub funct3_of : ℕ → ℕ
funct3_of word = field 12 3 word

abbrev pub rs1_of : ℕ → Reg
rs1_of word = reg_field 15 word

abbrev pub rs2_of : ℕ → Reg
rs2_of word = reg_field 20 word

abbrev pub funct7_of : ℕ → ℕ
funct7_of word = field 25 7 word

abbrev pub funct5_of : ℕ → ℕ
funct5_of word = field 27 5 word

abbrev pub aq_of : ℕ → Bool
aq_of word = field 26 1 word == 1

abbrev pub rl_of : ℕ → Bool
rl_of word = field 25 1 word == 1
