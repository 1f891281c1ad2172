use Rattle.std.specs.Prelude.{ℕ, Option, [], ◌∷◌, find, ◌==◌}
use Rattle.rv_word.specs.declared.insn.Test.{Test}
use Rattle.rv_word.specs.declared.insn.Test.TheVariants.{Eq, Ne, Lt, Ge, Ltu, Geu}

-- funct3 of a conditional branch
abbrev pub test_code : Test → ℕ
test_code Eq = 0b000
test_code Ne = 0b001
test_code Lt = 0b100
test_code Ge = 0b101
test_code Ltu = 0b110
test_code Geu = 0b111

-- the comparison that has this code, or none
unfoldable pub test_at : ℕ → Option Test
test_at code = find (λ test. code == test_code test) (Eq ∷ Ne ∷ Lt ∷ Ge ∷ Ltu ∷ Geu ∷ [])
