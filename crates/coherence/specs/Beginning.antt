-- memory as lines
use Rattle.std.specs.List.{range_with_len}
use Rattle.std.specs.Prelude.{ℕ, ◌≡◌, ◌*◌, ◌-◌, ◌/◌, List, drop, length, map, take}
use Rattle.el_base.specs.declared.line.TheConstants.{LINE_BYTES}
use Rattle.elf_image.specs.Program.{Program}
use Rattle.el_model.specs.FlatState.{FlatState}

-- the line at a place of memory, which is a list of its bytes
abbrev pub line_in : List ℕ → ℕ → List ℕ
line_in bytes place = take 64 (drop (place * 64) bytes)

-- the bytes of a line of memory, which is a list of bytes from a base on
abbrev pub line_at : ℕ → List ℕ → ℕ → List ℕ
line_at base bytes line = line_in bytes (line - base / LINE_BYTES)

-- the bytes of a line of flat memory
abbrev pub line_of : FlatState → ℕ → List ℕ
line_of flat = line_at flat.base flat.bytes

-- main memory, which begins at a line and has so many, lies where flat memory does and is as long
pub record LiesWhere (start count : ℕ) (flat : FlatState) : Type 0 where
  pub first : start * LINE_BYTES ≡ flat.base
  pub lines : count * LINE_BYTES ≡ length flat.bytes

-- the bytes of each line of a program's memory before the first step
abbrev pub bytes_at_first : Program → ℕ → List ℕ
bytes_at_first program = line_at program.base program.bytes

-- main memory as a program's bytes, line by line
unfoldable pub lines_at_first : Program → List (List ℕ)
lines_at_first program = map (line_in program.bytes) (range_with_len 0 (length program.bytes / 64))
