-- words in the bytes of a line
use Rattle.std.specs.Prelude.{ℕ, ◌+◌, ◌-◌, ◌&&◌, nat_le, nat_lt, if◌then◌else◌, List, [], ◌∷◌, slice_index}
use Rattle.std.specs.Int.{byte_at, from_le_bytes, w32}

-- the bytes at a place as a little-endian word
abbrev pub word_at : (ℕ → ℕ) → ℕ → ℕ
word_at byte place = from_le_bytes w32 (byte place ∷ byte (place + 1) ∷ byte (place + 2) ∷ byte (place + 3) ∷ [])

-- the byte at a place of a line after a word was put at another, the lowest byte first
abbrev pub put_byte : List ℕ → ℕ → ℕ → ℕ → ℕ
put_byte line offset word place =
    if nat_le offset place && nat_lt place (offset + 4) then byte_at (place - offset) word else slice_index line place
