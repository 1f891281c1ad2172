-- The definitions, computed on a file of 122 bytes and on changes of it, and the code's limits beside them. The
-- file has one segment, which is the whole file and begins at 0x10000; it prints 'A' and a newline.
use Rattle.std.proofs.Common.{◌≡◌, ℕ, ◌+◌, List, [], ◌∷◌, ◌++◌, take, drop, length, map, Option, Some, None, refl}
use Rattle.std.specs.Prelude.{flat_map}
use Rattle.byteorder.specs.Endian.{big_bytes}
use Rattle.el_base.specs.declared.file_fault.FileFault.{FileFault}
use Rattle.elf_image.specs.declared.limits.TheConstants as code
use Rattle.elf_image.specs.declared.program_header.ProgramHeader.{ProgramHeader}
use Rattle.elf_image.specs.declared.fault.FaultKind.TheVariants.{Short, Magic, Class, ByteOrder, Version, FileKind}
use Rattle.elf_image.specs.declared.fault.FaultKind.TheVariants.{Machine, Flags, Table, Dynamic}
use Rattle.elf_image.specs.declared.fault.FaultKind.TheVariants.{Segment, TooHigh, Entry, Empty}
use Rattle.elf_image.specs.Header.{file_header, program_header, headers_at, program_headers}
use Rattle.elf_image.specs.Layout.{segments_of, first_overlap, memory_base, memory_end}
use Rattle.elf_image.specs.FaultKinds.{fault_of}
use Rattle.elf_image.specs.Faults.{fault, ident_fault, header_fault, headers_fault, memory_fault}
use Rattle.elf_image.specs.Limits.{built_end_limit, built_limit, end_limit, file_limit, header_limit, memory_limit}
use Rattle.elf_image.specs.Limits.{page_size, stack_size}
use Rattle.elf_image.specs.Loaded.{loaded_byte}

-- the file, in groups of four bytes as they stand
abbrev words : List ℕ
words =
    0x7f454c46 ∷ 0x01010100 ∷ 0x00000000 ∷ 0x00000000
    ∷ 0x0200f300 ∷ 0x01000000 ∷ 0x54000100 ∷ 0x34000000 ∷ 0x00000000
    ∷ 0x00000000 ∷ 0x34002000 ∷ 0x01000000 ∷ 0x00000000
    ∷ 0x01000000 ∷ 0x00000000 ∷ 0x00000100 ∷ 0x00000100 ∷ 0x7a000000 ∷ 0x7a000000 ∷ 0x05000000 ∷ 0x00100000
    ∷ 0x13051000 ∷ 0x97050000 ∷ 0x93850502 ∷ 0x13062000 ∷ 0x93080004 ∷ 0x73000000
    ∷ 0x13050000 ∷ 0x9308d005 ∷ 0x73000000
    ∷ []

abbrev file : List ℕ
file = flat_map (λ word. big_bytes 4 word) words ++ 0x41 ∷ 0x0a ∷ []

-- the bytes with others written over them from a place on
abbrev changed : ℕ → List ℕ → List ℕ → List ℕ
changed place new bytes = take place bytes ++ new ++ drop (place + length new) bytes

-- files, each with its first fault for one hart
abbrev judged : List (List ℕ × Option FileFault)
judged =
    (file, None)
    ∷ (changed 2 (0x4d ∷ []) file, Some (fault_of Magic 2))
    ∷ (changed 4 (2 ∷ []) file, Some (fault_of Class 4))
    ∷ (changed 5 (2 ∷ []) file, Some (fault_of ByteOrder 5))
    ∷ (changed 6 (0 ∷ []) file, Some (fault_of Version 6))
    ∷ (changed 20 (2 ∷ []) file, Some (fault_of Version 20))
    ∷ (changed 16 (3 ∷ []) file, Some (fault_of FileKind 16))
    ∷ (changed 18 (0x3e ∷ []) file, Some (fault_of Machine 18))
    ∷ (changed 36 (1 ∷ []) file, Some (fault_of Flags 36))
    ∷ (changed 36 (0x10 ∷ []) file, None)
    ∷ ([], Some (fault_of Short 0))
    ∷ (take 51 file, Some (fault_of Short 51))
    ∷ (take 52 file, Some (fault_of Table 28))
    ∷ (take 83 file, Some (fault_of Table 28))
    ∷ (take 84 file, Some (fault_of Segment 56))
    ∷ (take 121 file, Some (fault_of Segment 56))
    ∷ (changed 40 (0x33 ∷ []) file, Some (fault_of Table 40))
    ∷ (changed 44 (0xff ∷ 0xff ∷ []) file, Some (fault_of Table 44))
    ∷ (changed 42 (0x28 ∷ []) file, Some (fault_of Table 42))
    ∷ (changed 28 (0xff ∷ 0xff ∷ 0xff ∷ 0xff ∷ []) file, Some (fault_of Table 28))
    ∷ (changed 52 (3 ∷ []) file, Some (fault_of Dynamic 52))
    ∷ (changed 52 (0 ∷ []) file, Some (fault_of Empty 44))
    ∷ (
      changed 60 (0x00 ∷ 0xff ∷ 0xff ∷ 0xff ∷ []) (changed 72 (0x00 ∷ 0x02 ∷ 0x00 ∷ 0x00 ∷ []) file),
      Some (fault_of TooHigh 28),
    )
    ∷ (changed 72 (0x79 ∷ []) file, Some (fault_of Segment 68))
    ∷ (changed 76 (4 ∷ []) file, Some (fault_of Entry 24))
    ∷ (changed 24 (0x56 ∷ []) file, Some (fault_of Entry 24))
    ∷ (changed 24 (0x78 ∷ []) file, Some (fault_of Entry 24))
    ∷ []

each_judged : map (λ (bytes, found). fault bytes 1) judged ≡ map (λ (bytes, found). found) judged
unfolding fault ident_fault header_fault headers_fault memory_fault file_header program_header headers_at
    program_headers segments_of memory_base memory_end
each_judged = refl

accepted_for_eight : fault file 8 ≡ None
unfolding fault ident_fault header_fault headers_fault memory_fault file_header program_header headers_at
    program_headers segments_of memory_base memory_end
accepted_for_eight = refl

-- a segment as far as its place in memory goes
abbrev segment : ℕ → ℕ → ProgramHeader
segment address bytes = record {
  place = 0;
  p_type = 1;
  p_offset = 0;
  p_vaddr = address;
  p_filesz = 0;
  p_memsz = bytes;
  p_flags = 5;
}

-- what a linker makes of a program with data
abbrev linked : List ProgramHeader
linked = segment 0x10000 0x6d4 ∷ segment 0x116d4 0x14c ∷ []

linked_base : memory_base linked ≡ 0x10000
unfolding memory_base
linked_base = refl

linked_end : memory_end linked 8 ≡ 0x91840
unfolding memory_end
linked_end = refl

linked_apart : first_overlap linked ≡ None
linked_apart = refl

adjacent : first_overlap (segment 64 36 ∷ segment 100 8 ∷ []) ≡ None
adjacent = refl

one_byte_shared : first_overlap (segment 99 2 ∷ segment 0 8 ∷ segment 64 36 ∷ []) ≡ Some (segment 64 36)
one_byte_shared = refl

widest : memory_end (segment 0x80000000 16711680 ∷ []) 1 ≡ 0x80000000 + 16777216
unfolding memory_end
widest = refl

wider : memory_end (segment 0x80000000 16711681 ∷ []) 1 ≡ 0x80000000 + 16777280
unfolding memory_end
wider = refl

last_byte : loaded_byte file (segments_of file) 0x10079 ≡ 0x0a
unfolding loaded_byte program_header headers_at program_headers segments_of file_header
last_byte = refl

behind_the_last_byte : loaded_byte file (segments_of file) 0x1007a ≡ 0
unfolding loaded_byte program_header headers_at program_headers segments_of file_header
behind_the_last_byte = refl

-- a byte that the segment has in memory alone is 0, whatever the file has there
not_filled : loaded_byte (changed 68 (0x79 ∷ []) file) (segments_of (changed 68 (0x79 ∷ []) file)) 0x10079 ≡ 0
unfolding loaded_byte program_header headers_at program_headers segments_of file_header
not_filled = refl

-- the limits that the crates above take from the code are those of the definitions
abbrev in_code : List ℕ
in_code =
    code.IMAGE_FILE_LIMIT ∷ code.PROGRAM_HEADER_LIMIT ∷ code.STACK_BYTES ∷ code.MEMORY_LIMIT ∷ code.MEMORY_END_LIMIT
    ∷ code.PAGE_BYTES ∷ code.BUILT_LIMIT ∷ code.BUILT_END_LIMIT ∷ []

limits_in_code : in_code ≡ file_limit ∷ header_limit ∷ stack_size ∷ memory_limit ∷ end_limit ∷ page_size ∷ built_limit
    ∷ built_end_limit ∷ []
limits_in_code = refl
