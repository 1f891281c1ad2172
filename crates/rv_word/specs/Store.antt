use Rattle.std.specs.Prelude.{ℕ, Option, [], ◌∷◌, find, ◌==◌}
use Rattle.rv_word.specs.declared.insn.StoreWidth.{StoreWidth}
use Rattle.rv_word.specs.declared.insn.StoreWidth.TheVariants.{Byte, Half, Word}

-- funct3 of a store
abbrev pub store_code : StoreWidth → ℕ
store_code Byte = 0b000
store_code Half = 0b001
store_code Word = 0b010

-- the width of the store that has this code, or none
unfoldable pub store_width_at : ℕ → Option StoreWidth
store_width_at code = find (λ width. code == store_code width) (Byte ∷ Half ∷ Word ∷ [])
