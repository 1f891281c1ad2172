-- The program that an accepted file loads.
use Rattle.std.specs.Prelude.{◌≡◌, ◌≤◌, ℕ, ◌+◌, ◌-◌, Bool, ◌&&◌, nat_lt, nat_le, List, map, slice_index, slice_range}
use Rattle.std.specs.Prelude.{None, All, find, filter}
use Rattle.std.specs.List.{range_with_len}
use Rattle.std.specs.Option.{option_map_or}
use Rattle.elf_image.specs.declared.layout.Layout.{Layout}
use Rattle.elf_image.specs.declared.program_header.ProgramHeader.{ProgramHeader}
use Rattle.elf_image.specs.Header.{file_header}
use Rattle.elf_image.specs.Layout.{is_executable, segment_end, first_overlap, segments_of, layout_of, size_of}
use Rattle.elf_image.specs.Limits.{end_limit}
use Rattle.elf_image.specs.Program.{Program, CodeSegment}

-- the address is that of one of the segment's first p_filesz bytes, which stand in the file
abbrev pub is_filled : ℕ → ProgramHeader → Bool
is_filled address segment = nat_le segment.p_vaddr address && nat_lt address (segment.p_vaddr + segment.p_filesz)

-- the byte of the file at an address that a segment fills
abbrev pub file_byte : List ℕ → ℕ → ProgramHeader → ℕ
file_byte file address segment = slice_index file (segment.p_offset + (address - segment.p_vaddr))

-- the byte at an address: that of the file where a segment has it there, else 0
unfoldable pub loaded_byte : List ℕ → List ProgramHeader → ℕ → ℕ
loaded_byte file segments address = option_map_or (file_byte file address) (find (is_filled address) segments) 0

-- memory from its base on
unfoldable pub loaded_bytes : List ℕ → ℕ → List ℕ
loaded_bytes file harts =
    let segments = segments_of file in
    let layout = layout_of segments harts in
    map (loaded_byte file segments) (range_with_len layout.base (size_of layout))

-- an executable segment as it lies in memory, of which the base and the bytes are given
abbrev pub code_segment : ℕ → List ℕ → ProgramHeader → CodeSegment
code_segment base bytes segment =
    let from = segment.p_vaddr - base in
    record { start = segment.p_vaddr; bytes = slice_range bytes from (from + segment.p_memsz) }

-- the program that a file without a fault loads for so many harts
unfoldable pub program_of : List ℕ → ℕ → Program
program_of file harts =
    let segments = segments_of file in
    let base = (layout_of segments harts).base in
    let bytes = loaded_bytes file harts in
    record {
      base = base;
      bytes = bytes;
      entry = (file_header file).e_entry;
      harts = harts;
      code = map (code_segment base bytes) (filter is_executable segments);
    }

-- a segment lies in so many bytes from a base on
pub record IsInside (base size : ℕ) (segment : ProgramHeader) : Type 0 where
  pub above : base ≤ segment.p_vaddr
  pub below : segment_end segment ≤ base + size

-- and what it has in the file stands there
pub record Fits (file_len base size : ℕ) (segment : ProgramHeader) : Type 0 where
  pub inside : IsInside base size segment
  pub filled : segment.p_filesz ≤ segment.p_memsz
  pub in_file : 1 ≤ segment.p_filesz → segment.p_offset + segment.p_filesz ≤ file_len

-- what loading needs of segments that lie so in memory, in a file of so many bytes
pub record IsLoadable (file_len : ℕ) (segments : List ProgramHeader) (layout : Layout) : Type 0 where
  pub fits : All (Fits file_len layout.base (size_of layout)) segments
  pub apart : first_overlap segments ≡ None
  pub ordered : layout.base ≤ layout.end
  pub low : layout.end ≤ end_limit
