-- The grammar of images: the first of sixteen faults, or none. Above each fault stands what a file that does not
-- have it keeps to.
use Rattle.std.specs.Prelude.{◌≡◌, ◌≤◌, ℕ, ◌+◌, ◌*◌, ◌%◌, Bool, not, ◌&&◌, ◌==◌, nat_lt, nat_le, if◌then◌else◌, List}
use Rattle.std.specs.Prelude.{[], ◌∷◌, map, length}
use Rattle.std.specs.Prelude.{slice_index, Option, None, find, position, zip, option_map}
use Rattle.std.specs.List.{list_any}
use Rattle.el_base.specs.Firsts.{first_of, some_if}
use Rattle.el_base.specs.declared.file_fault.FileFault.{FileFault}
use Rattle.elf_image.specs.declared.fault.FaultKind.TheVariants.{Short, Magic, Class, ByteOrder, Version, FileKind}
use Rattle.elf_image.specs.declared.fault.FaultKind.TheVariants.{Machine, Flags, Table, Dynamic}
use Rattle.elf_image.specs.declared.fault.FaultKind.TheVariants.{Segment, Overlap, TooWide, TooHigh, Entry, Empty}
use Rattle.elf_image.specs.declared.header.FileHeader.{FileHeader}
use Rattle.elf_image.specs.declared.program_header.ProgramHeader.{ProgramHeader}
use Rattle.elf_image.specs.declared.layout.Layout.{Layout}
use Rattle.elf_image.specs.FaultKinds.{fault_of}
use Rattle.elf_image.specs.Header.{elf_magic, file_header, program_headers}
use Rattle.elf_image.specs.Layout.{is_load, is_dynamic, has_instruction, segments_of, first_overlap, layout_of, size_of}
use Rattle.elf_image.specs.Limits.{end_limit, header_limit, memory_limit}

-- a value is not the one that is wanted
abbrev pub differs : ℕ → ℕ → Bool
differs value wanted = not (value == wanted)

-- e_ident

-- the file has the 52 bytes of an ELF header; the place of this fault is the file's length
abbrev pub short_fault : List ℕ → Option FileFault
short_fault file = some_if (nat_lt (length file) 52) (fault_of Short (length file))

-- the place of the first byte that is not ELF's magic one
abbrev pub magic_difference : List ℕ → Option ℕ
magic_difference file = position (λ (byte, wanted). differs byte wanted) (zip file elf_magic)

-- the file begins with ELF's four magic bytes
abbrev pub magic_fault : List ℕ → Option FileFault
magic_fault file = option_map (fault_of Magic) (magic_difference file)

-- EI_CLASS is ELFCLASS32
abbrev pub class_fault : List ℕ → Option FileFault
class_fault file = some_if (differs (slice_index file 4) 1) (fault_of Class 4)

-- EI_DATA is ELFDATA2LSB
abbrev pub byte_order_fault : List ℕ → Option FileFault
byte_order_fault file = some_if (differs (slice_index file 5) 1) (fault_of ByteOrder 5)

-- EI_VERSION is EV_CURRENT
abbrev pub ident_version_fault : List ℕ → Option FileFault
ident_version_fault file = some_if (differs (slice_index file 6) 1) (fault_of Version 6)

-- The other fields of the ELF header

-- e_version is EV_CURRENT too
abbrev pub header_version_fault : FileHeader → Option FileFault
header_version_fault header = some_if (differs header.e_version 1) (fault_of Version 20)

-- e_type is ET_EXEC
abbrev pub file_kind_fault : FileHeader → Option FileFault
file_kind_fault header = some_if (differs header.e_type 2) (fault_of FileKind 16)

-- e_machine is EM_RISCV
abbrev pub machine_fault : FileHeader → Option FileFault
machine_fault header = some_if (differs header.e_machine 243) (fault_of Machine 18)

-- EF_RISCV_RVC, EF_RISCV_FLOAT_ABI and EF_RISCV_RVE are the low four bits
abbrev pub flags_fault : FileHeader → Option FileFault
flags_fault header = some_if (differs (header.e_flags % 16) 0) (fault_of Flags 36)

-- the sizes are those of ELF32, there are few headers, and all lie in a file of so many bytes
abbrev pub table_fault : FileHeader → ℕ → Option FileFault
table_fault header file_len =
    first_of
    (some_if (differs header.e_ehsize 52) (fault_of Table 40)
    ∷ some_if (nat_lt header_limit header.e_phnum) (fault_of Table 44)
    ∷ some_if (nat_le 1 header.e_phnum && differs header.e_phentsize 32) (fault_of Table 42)
    ∷ some_if (nat_lt file_len (header.e_phoff + 32 * header.e_phnum)) (fault_of Table 28)
    ∷ [])

-- The program headers

-- the place of the first header that asks for a dynamic linker
abbrev pub first_dynamic : List ProgramHeader → Option ℕ
first_dynamic headers = option_map (λ header. header.place) (find is_dynamic headers)

-- no header asks for a dynamic linker
abbrev pub dynamic_fault : List ProgramHeader → Option FileFault
dynamic_fault headers = option_map (fault_of Dynamic) (first_dynamic headers)

-- of one header of type PT_LOAD: it has no more bytes in the file than in memory, and these lie in the
-- file
abbrev pub load_fault : ℕ → ProgramHeader → Option FileFault
load_fault file_len header =
    if is_load header
    then first_of
    (some_if (nat_lt header.p_memsz header.p_filesz) (fault_of Segment (header.place + 16))
    ∷ some_if (nat_le 1 header.p_filesz && nat_lt file_len (header.p_offset + header.p_filesz))
    (fault_of Segment (header.place + 4))
    ∷ [])
    else None

-- of all headers: the first fault in the order of the table
abbrev pub segments_fault : List ProgramHeader → ℕ → Option FileFault
segments_fault headers file_len = first_of (map (load_fault file_len) headers)

-- The segments in memory

-- no two segments share a byte of memory; the place of this fault is that of the later one's header
abbrev pub overlap_fault : List ProgramHeader → Option FileFault
overlap_fault segments = option_map (λ segment. fault_of Overlap segment.place) (first_overlap segments)

-- there is a segment
abbrev pub has_segment : List ProgramHeader → Bool
has_segment segments = nat_lt 0 (length segments)

-- memory with the stacks has at most 16,777,216 bytes
abbrev pub too_wide_fault : List ProgramHeader → Layout → Option FileFault
too_wide_fault segments layout =
    some_if (has_segment segments && nat_lt memory_limit (size_of layout)) (fault_of TooWide 28)

-- memory with the stacks ends at 0xffff0000 at most
abbrev pub too_high_fault : List ProgramHeader → Layout → Option FileFault
too_high_fault segments layout =
    some_if (has_segment segments && nat_lt end_limit layout.end) (fault_of TooHigh 28)

-- an instruction is aligned, and all of it lies in one executable segment
abbrev pub is_entry : List ProgramHeader → ℕ → Bool
is_entry segments entry = entry % 4 == 0 && list_any (has_instruction entry) segments

-- the entry is an instruction's address
abbrev pub entry_fault : List ProgramHeader → ℕ → Option FileFault
entry_fault segments entry = some_if (has_segment segments && not (is_entry segments entry)) (fault_of Entry 24)

-- a segment is loaded
abbrev pub empty_fault : List ProgramHeader → Option FileFault
empty_fault segments = some_if (not (has_segment segments)) (fault_of Empty 44)

-- All of them in order

-- the first fault of e_ident
unfoldable pub ident_fault : List ℕ → Option FileFault
ident_fault file =
    first_of
    (short_fault file
    ∷ magic_fault file
    ∷ class_fault file
    ∷ byte_order_fault file
    ∷ ident_version_fault file
    ∷ [])

-- the first fault of the other fields of the ELF header, in a file of so many bytes
unfoldable pub header_fault : FileHeader → ℕ → Option FileFault
header_fault header file_len =
    first_of
    (header_version_fault header
    ∷ file_kind_fault header
    ∷ machine_fault header
    ∷ flags_fault header
    ∷ table_fault header file_len
    ∷ [])

-- the first fault of the program headers, in a file of so many bytes
unfoldable pub headers_fault : List ProgramHeader → ℕ → Option FileFault
headers_fault headers file_len = first_of (dynamic_fault headers ∷ segments_fault headers file_len ∷ [])

-- the first fault of the segments in memory that lies so, with an entry
unfoldable pub memory_fault : List ProgramHeader → Layout → ℕ → Option FileFault
memory_fault segments layout entry =
    first_of
    (overlap_fault segments
    ∷ too_wide_fault segments layout
    ∷ too_high_fault segments layout
    ∷ entry_fault segments entry
    ∷ empty_fault segments
    ∷ [])

-- the first fault of a file as the image of a program for a number of harts, or none
unfoldable pub fault : List ℕ → ℕ → Option FileFault
fault file harts =
    let header = file_header file in
    let segments = segments_of file in
    first_of
    (ident_fault file
    ∷ header_fault header (length file)
    ∷ headers_fault (program_headers file) (length file)
    ∷ memory_fault segments (layout_of segments harts) header.e_entry
    ∷ [])

-- a file without a fault for every number of harts
abbrev pub IsFaultless : List ℕ → Type 0
IsFaultless file = (harts : ℕ) → 1 ≤ harts → harts ≤ 8 → fault file harts ≡ None
