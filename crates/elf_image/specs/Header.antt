-- The headers of a file, with the field names of the ELF specification.
use Rattle.std.specs.Prelude.{ℕ, ◌+◌, ◌*◌, ◌≤◌, List, [], ◌∷◌, ◌++◌, map, replicate}
use Rattle.std.specs.List.{range_with_len}
use Rattle.elf_image.specs.declared.header.FileHeader.{FileHeader}
use Rattle.elf_image.specs.declared.program_header.ProgramHeader.{ProgramHeader}
use Rattle.elf_image.specs.Limits.{header_limit}
use Rattle.elf_image.specs.Numbers.{half_at, half_bytes, word_at, word_bytes}

-- the ELF header
unfoldable pub file_header : List ℕ → FileHeader
file_header file = record {
  e_type = half_at file 16;
  e_machine = half_at file 18;
  e_version = word_at file 20;
  e_entry = word_at file 24;
  e_phoff = word_at file 28;
  e_flags = word_at file 36;
  e_ehsize = half_at file 40;
  e_phentsize = half_at file 42;
  e_phnum = half_at file 44;
}

-- the program header at a place of the file
unfoldable pub program_header : List ℕ → ℕ → ProgramHeader
program_header file place = record {
  place = place;
  p_type = word_at file place;
  p_offset = word_at file (place + 4);
  p_vaddr = word_at file (place + 8);
  p_filesz = word_at file (place + 16);
  p_memsz = word_at file (place + 20);
  p_flags = word_at file (place + 24);
}

-- so many program headers, the first of them at a place of the file
unfoldable pub headers_at : List ℕ → ℕ → ℕ → List ProgramHeader
headers_at file place count = map (λ index. program_header file (place + 32 * index)) (range_with_len 0 count)

-- the program headers in the order of the table
unfoldable pub program_headers : List ℕ → List ProgramHeader
program_headers file = headers_at file (file_header file).e_phoff (file_header file).e_phnum

-- the bytes 0x7f, 'E', 'L', 'F'
abbrev pub elf_magic : List ℕ
elf_magic = 0x7f ∷ 0x45 ∷ 0x4c ∷ 0x46 ∷ []

-- the bytes of an ELF header of class ELFCLASS32 in a file without sections
unfoldable pub file_header_bytes : FileHeader → List ℕ
file_header_bytes header =
    elf_magic
    ++ (1 ∷ 1 ∷ 1 ∷ [])
    ++ replicate 9 0
    ++ half_bytes (header.e_type ∷ header.e_machine ∷ [])
    ++ word_bytes (header.e_version ∷ header.e_entry ∷ header.e_phoff ∷ 0 ∷ header.e_flags ∷ [])
    ++ half_bytes (header.e_ehsize ∷ header.e_phentsize ∷ header.e_phnum ∷ 0 ∷ 0 ∷ 0 ∷ [])

-- the bytes of a program header whose segment is aligned to 4 bytes, with p_vaddr for p_paddr
unfoldable pub program_header_bytes : ProgramHeader → List ℕ
program_header_bytes header =
    word_bytes
    (header.p_type
    ∷ header.p_offset
    ∷ header.p_vaddr
    ∷ header.p_vaddr
    ∷ header.p_filesz
    ∷ header.p_memsz
    ∷ header.p_flags
    ∷ 4
    ∷ [])

-- the table of program headers is short and lies in a file of so many bytes
pub record HasTable (header : FileHeader) (file_len : ℕ) : Type 0 where
  pub few : header.e_phnum ≤ header_limit
  pub inside : header.e_phoff + 32 * header.e_phnum ≤ file_len
