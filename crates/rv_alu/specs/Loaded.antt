-- the bytes that an access touches, as one number
use Rattle.std.specs.Prelude.{ℕ, zero, suc, ◌+◌, ◌*◌}

-- so many bytes from an address on as a little-endian number, where `byte` tells each byte of memory
abbrev pub loaded : (ℕ → ℕ) → ℕ → ℕ → ℕ
loaded byte address zero = 0
loaded byte address (suc len) = byte address + 256 * loaded byte (address + 1) len
