-- lines merged by a mask, byte by byte
use Rattle.std.specs.Prelude.{ℕ, ◌==◌, if◌then◌else◌, List, slice_index}
use Rattle.std.specs.Int.{bit_at}

-- the byte at a place of a merged line: that of the line over it where the mask has the
-- place's bit, else the line's own
abbrev pub merged_byte : List ℕ → List ℕ → ℕ → ℕ → ℕ
merged_byte line over mask place = if bit_at mask place == 1 then slice_index over place else slice_index line place
