-- numbers of four bytes in a file
use Rattle.std.specs.Prelude.{ℕ, ◌<◌, List, drop, slice_index}
use Rattle.byteorder.specs.Endian.{little_number}

-- each number of the list is a byte
abbrev pub IsBytes : List ℕ → Type 0
IsBytes bytes = (place : ℕ) → slice_index bytes place < 256

-- the number of four bytes at a place, the lowest first
abbrev pub number_at : List ℕ → ℕ → ℕ
number_at file place = little_number 4 (drop place file)
