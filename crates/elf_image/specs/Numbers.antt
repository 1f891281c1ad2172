-- Numbers of an image file. All of them are little endian.
use Rattle.std.specs.Prelude.{◌≡◌, ◌<◌, ◌*◌, ℕ, List, flat_map, length, slice_index}
use Rattle.byteorder.specs.Endian.{little_bytes, little_from}

-- the two bytes at a place, as a number
abbrev pub half_at : List ℕ → ℕ → ℕ
half_at bytes place = little_from place 2 bytes

-- the four bytes at a place, as a number
abbrev pub word_at : List ℕ → ℕ → ℕ
word_at bytes place = little_from place 4 bytes

-- the bytes of numbers of two bytes each
abbrev pub half_bytes : List ℕ → List ℕ
half_bytes halves = flat_map (little_bytes 2) halves

-- the bytes of numbers of four bytes each
abbrev pub word_bytes : List ℕ → List ℕ
word_bytes words = flat_map (little_bytes 4) words

-- each word stands in the bytes at its place
abbrev pub ReadBack : List ℕ → Type 0
ReadBack words = (index : ℕ) → index < length words → word_at (word_bytes words) (4 * index) ≡ slice_index words index
