-- bytes of memory, which is a list of bytes from a base on
use Rattle.std.specs.Prelude.{ℕ, ◌<◌, zero, suc, ◌+◌, ◌-◌, ◌/◌, ◌%◌, List, drop, take, slice_index, slice_set}

-- the byte at an address
abbrev pub byte_in : ℕ → List ℕ → ℕ → ℕ
byte_in base bytes address = slice_index bytes (address - base)

-- the bytes after the low bytes of a number were put at a place, the lowest first
abbrev pub put_bytes : List ℕ → ℕ → ℕ → ℕ → List ℕ
put_bytes bytes place zero value = bytes
put_bytes bytes place (suc len) value = put_bytes (slice_set bytes place (value % 256)) (place + 1) len (value / 256)

-- so many bytes from a place on
abbrev pub piece_of : List ℕ → ℕ → ℕ → List ℕ
piece_of bytes place len = take len (drop place bytes)

-- each is a byte
abbrev pub AreBytes : List ℕ → Type 0
AreBytes bytes = (place : ℕ) → slice_index bytes place < 256
