-- Where the segments of a file lie in memory. Sums are those of numbers without an upper bound, so no
-- address wraps.
use Rattle.std.specs.Prelude.{ℕ, ◌+◌, ◌-◌, ◌*◌, ◌/◌, ◌%◌, ◌^◌, min, max, Bool, ◌&&◌, ◌||◌, ◌==◌, nat_lt, nat_le}
use Rattle.std.specs.Prelude.{if◌then◌else◌, List, [], ◌∷◌, ◌++◌}
use Rattle.std.specs.Prelude.{Option, Some, None, filter, fold}
use Rattle.std.specs.List.{list_any}
use Rattle.elf_image.specs.declared.layout.Layout.{Layout}
use Rattle.elf_image.specs.declared.program_header.ProgramHeader.{ProgramHeader}
use Rattle.elf_image.specs.Header.{program_headers}
use Rattle.elf_image.specs.Limits.{line_size, stack_size}

-- a header of type PT_LOAD
abbrev pub is_load : ProgramHeader → Bool
is_load header = header.p_type == 1

-- a header of type PT_DYNAMIC or PT_INTERP
abbrev pub is_dynamic : ProgramHeader → Bool
is_dynamic header = header.p_type == 2 || header.p_type == 3

-- a segment is a header of type PT_LOAD that has memory
abbrev pub is_segment : ProgramHeader → Bool
is_segment header = is_load header && nat_le 1 header.p_memsz

-- the flag PF_X
abbrev pub is_executable : ProgramHeader → Bool
is_executable segment = segment.p_flags % 2 == 1

-- a segment lies in memory from p_vaddr up to this address
abbrev pub segment_end : ProgramHeader → ℕ
segment_end segment = segment.p_vaddr + segment.p_memsz

-- two segments have a byte of memory in common
abbrev pub shares_byte : ProgramHeader → ProgramHeader → Bool
shares_byte a b = nat_lt a.p_vaddr (segment_end b) && nat_lt b.p_vaddr (segment_end a)

-- the four bytes at an address all lie in the segment
abbrev pub has_word : ℕ → ProgramHeader → Bool
has_word address segment = nat_le segment.p_vaddr address && nat_le (address + 4) (segment_end segment)

-- the segment is executable and has the four bytes at an address
abbrev pub has_instruction : ℕ → ProgramHeader → Bool
has_instruction address segment = is_executable segment && has_word address segment

-- the segments, in the order of the table
unfoldable pub segments_of : List ℕ → List ProgramHeader
segments_of file = filter is_segment (program_headers file)

-- the first segment of the second list that shares a byte with one before it, of either list
abbrev pub overlap_after : List ProgramHeader → List ProgramHeader → Option ProgramHeader
overlap_after earlier [] = None
overlap_after earlier (segment ∷ later) =
    if list_any (shares_byte segment) earlier then Some segment else overlap_after (earlier ++ segment ∷ []) later

-- the first segment that shares a byte with an earlier one
abbrev pub first_overlap : List ProgramHeader → Option ProgramHeader
first_overlap segments = overlap_after [] segments

-- the least address of a segment
abbrev pub lowest : List ProgramHeader → ℕ
lowest segments = fold (λ low segment. min low segment.p_vaddr) (2 ^ 32) segments

-- the greatest end of a segment
abbrev pub highest : List ProgramHeader → ℕ
highest segments = fold (λ high segment. max high (segment_end segment)) 0 segments

-- the least multiple of a unit that is not below an address
abbrev pub round_up : ℕ → ℕ → ℕ
round_up unit address = (address + (unit - 1)) / unit * unit

-- the greatest multiple of a unit that is not above an address
abbrev pub round_down : ℕ → ℕ → ℕ
round_down unit address = address / unit * unit

-- memory goes from here, on a line
unfoldable pub memory_base : List ProgramHeader → ℕ
memory_base segments = round_down line_size (lowest segments)

-- up to here: behind the last segment, on a line too, each hart has its stack
unfoldable pub memory_end : List ProgramHeader → ℕ → ℕ
memory_end segments harts = round_up line_size (highest segments) + stack_size * harts

-- where memory lies
abbrev pub layout_of : List ProgramHeader → ℕ → Layout
layout_of segments harts = record { base = memory_base segments; end = memory_end segments harts }

-- how many bytes memory has
abbrev pub size_of : Layout → ℕ
size_of layout = layout.end - layout.base
