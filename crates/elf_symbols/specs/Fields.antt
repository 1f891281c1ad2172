-- Little-endian fields of a file. What is outside the file is read as zero.
use Rattle.std.specs.Prelude.{ℕ, List, [], ◌∷◌, drop, length, nat_lt, if◌then◌else◌}
use Rattle.byteorder.specs.Endian.{little_from}

abbrev pub first_or_zero : List ℕ → ℕ
first_or_zero [] = 0
first_or_zero (byte ∷ rest) = byte

abbrev pub byte_at : List ℕ → ℕ → ℕ
byte_at file place = first_or_zero (drop place file)

-- the number of the first bytes, so many, where there are as many
abbrev pub first_number : ℕ → List ℕ → ℕ
first_number width bytes = if nat_lt (length bytes) width then 0 else little_from 0 width bytes

abbrev pub half_at : List ℕ → ℕ → ℕ
half_at file place = first_number 2 (drop place file)

abbrev pub word_at : List ℕ → ℕ → ℕ
word_at file place = first_number 4 (drop place file)
