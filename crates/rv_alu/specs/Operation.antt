-- the results of RV32IMA's operations on words of 32 bits, which are numbers below 2 ^ 32
use Rattle.std.specs.Prelude.{ℕ, ℤ, pos, ◌*ℤ◌, Bool, ◌+◌, ◌-◌, ◌*◌, ◌/◌, ◌%◌, ◌^◌, ◌==◌, nat_lt, not, if◌then◌else◌}
use Rattle.std.specs.Prelude.{bit_and, bit_or, bit_xor, int_lt}
use Rattle.std.specs.Prelude.{int_div, int_rem, min, max}
use Rattle.std.specs.Int.{cast_signed, cast_unsigned, int_shr, w32, w64}
use Rattle.rv_word.specs.declared.insn.Alu.{Alu}
use Rattle.rv_word.specs.declared.insn.Alu.TheVariants as alus
use Rattle.rv_word.specs.declared.insn.Test.{Test}
use Rattle.rv_word.specs.declared.insn.Test.TheVariants as tests
use Rattle.rv_word.specs.declared.insn.AmoOp.{AmoOp}
use Rattle.rv_word.specs.declared.insn.AmoOp.TheVariants as amos
use Rattle.rv_word.specs.declared.insn.LoadWidth.{LoadWidth}
use Rattle.rv_word.specs.declared.insn.LoadWidth.TheVariants as widths

-- a word read as a signed number in two's complement
abbrev pub signed : ℕ → ℤ
signed word = cast_signed w32 word

-- whether a word is less than another as signed numbers
abbrev pub signed_less : ℕ → ℕ → Bool
signed_less left right = int_lt (signed left) (signed right)

-- 1 where a test holds, else 0
abbrev pub flag : Bool → ℕ
flag test = if test then 1 else 0

-- the sum of two words, modulo 2 ^ 32
abbrev pub plus : ℕ → ℕ → ℕ
plus left right = (left + right) % 2 ^ 32

-- a word moved by a signed offset, modulo 2 ^ 32
abbrev pub moved_of : ℕ → ℤ → ℕ
moved_of word offset = plus word (cast_unsigned w32 offset)

-- the upper word of a product of two words, which is a number of 64 bits in two's complement
abbrev pub upper_word_of : ℤ → ℕ
upper_word_of product = cast_unsigned w64 product / 2 ^ 32

-- the quotient rounds toward zero and the remainder has the sign of the dividend; a division by zero gives
-- all ones and leaves the dividend. Signed, the least number divided by -1 is 2 ^ 31: the word of the least
-- number again
abbrev pub quotient_of : ℕ → ℕ → ℕ
quotient_of left right = if right == 0 then 2 ^ 32 - 1 else left / right

abbrev pub remainder_of : ℕ → ℕ → ℕ
remainder_of left right = if right == 0 then left else left % right

abbrev pub signed_quotient_of : ℕ → ℕ → ℕ
signed_quotient_of left right =
    if right == 0 then 2 ^ 32 - 1 else cast_unsigned w32 (int_div (signed left) (signed right))

abbrev pub signed_remainder_of : ℕ → ℕ → ℕ
signed_remainder_of left right =
    if right == 0 then left else cast_unsigned w32 (int_rem (signed left) (signed right))

-- the result of a register operation; shifts take the low five bits of the right word, and `Sra` fills
-- with the sign
abbrev pub alu_of : Alu → ℕ → ℕ → ℕ
alu_of alus.Add left right = plus left right
alu_of alus.Sub left right = (left + (2 ^ 32 - right)) % 2 ^ 32
alu_of alus.Sll left right = left * 2 ^ (right % 32) % 2 ^ 32
alu_of alus.Slt left right = flag (signed_less left right)
alu_of alus.Sltu left right = flag (nat_lt left right)
alu_of alus.Xor left right = bit_xor left right
alu_of alus.Srl left right = left / 2 ^ (right % 32)
alu_of alus.Sra left right = cast_unsigned w32 (int_shr (signed left) (right % 32))
alu_of alus.Or left right = bit_or left right
alu_of alus.And left right = bit_and left right
alu_of alus.Mul left right = left * right % 2 ^ 32
alu_of alus.Mulh left right = upper_word_of (signed left *ℤ signed right)
alu_of alus.Mulhsu left right = upper_word_of (signed left *ℤ pos right)
alu_of alus.Mulhu left right = left * right / 2 ^ 32
alu_of alus.Div left right = signed_quotient_of left right
alu_of alus.Divu left right = quotient_of left right
alu_of alus.Rem left right = signed_remainder_of left right
alu_of alus.Remu left right = remainder_of left right

-- whether a branch is taken
abbrev pub taken_of : Test → ℕ → ℕ → Bool
taken_of tests.Eq left right = left == right
taken_of tests.Ne left right = not (left == right)
taken_of tests.Lt left right = signed_less left right
taken_of tests.Ge left right = not (signed_less left right)
taken_of tests.Ltu left right = nat_lt left right
taken_of tests.Geu left right = not (nat_lt left right)

-- what an atomic memory operation stores
abbrev pub amo_of : AmoOp → ℕ → ℕ → ℕ
amo_of amos.Swap old source = source
amo_of amos.Add old source = plus old source
amo_of amos.Xor old source = bit_xor old source
amo_of amos.And old source = bit_and old source
amo_of amos.Or old source = bit_or old source
amo_of amos.Min old source = if signed_less source old then source else old
amo_of amos.Max old source = if signed_less source old then old else source
amo_of amos.Minu old source = min old source
amo_of amos.Maxu old source = max old source

-- the low bits of a number, the last of them its sign, as a word: `half` is the weight of that bit
abbrev pub sign_extended_of : ℕ → ℕ → ℕ
sign_extended_of low half = if nat_lt low half then low else low + (2 ^ 32 - 2 * half)

-- what a load puts into its register, of the loaded bytes as a number
abbrev pub extend_of : LoadWidth → ℕ → ℕ
extend_of widths.Byte raw = sign_extended_of (raw % 2 ^ 8) (2 ^ 7)
extend_of widths.Half raw = sign_extended_of (raw % 2 ^ 16) (2 ^ 15)
extend_of widths.Word raw = raw
extend_of widths.ByteU raw = raw % 2 ^ 8
extend_of widths.HalfU raw = raw % 2 ^ 16
