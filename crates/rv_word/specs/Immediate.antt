use Rattle.std.specs.Prelude.{ℕ, ◌+◌, ◌-◌, ◌*◌, ◌^◌, ℤ, pos, negsuc, nat_lt, if◌then◌else◌}
use Rattle.rv_word.specs.Field.{field}

-- a number of `width` bits read as two's complement
abbrev pub signed : ℕ → ℕ → ℤ
signed width n = if nat_lt n (2 ^ (width - 1)) then pos n else negsuc (2 ^ width - 1 - n)

-- the immediates of the five forms (RISC-V unprivileged manual, chapter 2, 'Immediate Encoding
-- Variants')
abbrev pub imm_i : ℕ → ℤ
imm_i word = signed 12 (field 20 12 word)

abbrev pub imm_s : ℕ → ℤ
imm_s word = signed 12 (2 ^ 5 * field 25 7 word + field 7 5 word)

abbrev pub imm_b : ℕ → ℤ
imm_b word =
    signed 13 (2 ^ 12 * field 31 1 word + 2 ^ 11 * field 7 1 word + 2 ^ 5 * field 25 6 word + 2 * field 8 4 word)

abbrev pub imm_u : ℕ → ℕ
imm_u word = 2 ^ 12 * field 12 20 word

abbrev pub imm_j : ℕ → ℤ
imm_j word =
    signed 21 (2 ^ 20 * field 31 1 word + 2 ^ 12 * field 12 8 word + 2 ^ 11 * field 20 1 word + 2 * field 21 10 word)

-- the amount of a shift, in the place of rs2
abbrev pub shamt_of : ℕ → ℕ
shamt_of word = field 20 5 word
