use Rattle.std.specs.Prelude.{ℕ, Option, [], ◌∷◌, find, ◌==◌}
use Rattle.rv_word.specs.declared.insn.LoadWidth.{LoadWidth}
use Rattle.rv_word.specs.declared.insn.LoadWidth.TheVariants.{Byte, Half, Word, ByteU, HalfU}

-- funct3 of a load
abbrev pub load_code : LoadWidth → ℕ
load_code Byte = 0b000
load_code Half = 0b001
load_code Word = 0b010
load_code ByteU = 0b100
load_code HalfU = 0b101

-- the width of the load that has this code, or none
unfoldable pub load_width_at : ℕ → Option LoadWidth
load_width_at code = find (λ width. code == load_code width) (Byte ∷ Half ∷ Word ∷ ByteU ∷ HalfU ∷ [])
