-- Where the symbol table of an ELF file lies.
use Rattle.std.specs.Prelude.{ℕ, ◌+◌, ◌*◌, ◌/◌, ◌==◌, ◌&&◌, ◌||◌, Bool, not, nat_lt, nat_le, if◌then◌else◌, List}
use Rattle.std.specs.Prelude.{length, find, min}
use Rattle.std.specs.Prelude.{Option, Some, None}
use Rattle.std.specs.List.{range_with_len}
use Rattle.elf_symbols.specs.declared.location.Location.{Location}
use Rattle.elf_symbols.specs.declared.location.Location.TheVariants.{Nothing, Broken, At}
use Rattle.elf_symbols.specs.declared.location.Place.{Place}
use Rattle.elf_symbols.specs.declared.sections.Header.{Header}
use Rattle.elf_symbols.specs.declared.sections.Section.{Section}
use Rattle.elf_symbols.specs.Fields.{byte_at, half_at, word_at}

-- the header of an ELF file of 32 bits, little endian, is whole
abbrev pub is_elf32 : List ℕ → Bool
is_elf32 file =
    nat_le 52 (length file) && (word_at file 0 == 0x464c457f) && (byte_at file 4 == 1) && (byte_at file 5 == 1)

abbrev pub header_of : List ℕ → Header
header_of file = record { e_shoff = word_at file 32; e_shentsize = half_at file 46; e_shnum = half_at file 48 }

-- the section header of a number, in a table at a place
unfoldable pub section_at : List ℕ → ℕ → ℕ → Section
section_at file e_shoff index = record {
  sh_type = word_at file (e_shoff + 40 * index + 4);
  sh_offset = word_at file (e_shoff + 40 * index + 16);
  sh_size = word_at file (e_shoff + 40 * index + 20);
  sh_link = word_at file (e_shoff + 40 * index + 24);
  sh_entsize = word_at file (e_shoff + 40 * index + 36);
}

-- SHT_SYMTAB
abbrev pub is_symtab : Section → Bool
is_symtab section = section.sh_type == 2

-- the number of the first symbol table
abbrev pub first_symtab : List ℕ → Header → Option ℕ
first_symtab file header =
    find (λ index. is_symtab (section_at file header.e_shoff index)) (range_with_len 0 header.e_shnum)

-- all bytes of a section stand in a file of so many bytes
abbrev pub is_inside : ℕ → Section → Bool
is_inside file_len section = nat_le (section.sh_offset + section.sh_size) file_len

-- a symbol table and the strings that it links to, SHT_STRTAB, are whole
abbrev pub is_whole : ℕ → Header → Section → Section → Bool
is_whole file_len header symtab strtab =
    (symtab.sh_entsize == 16) && nat_lt symtab.sh_link header.e_shnum && is_inside file_len symtab
    && (strtab.sh_type == 3) && is_inside file_len strtab

-- where the entries and the names stand. The entries behind the first 65,536 are not read
abbrev pub place_of : Section → Section → Place
place_of symtab strtab = record {
  entries = symtab.sh_offset;
  count = min (symtab.sh_size / 16) 65536;
  names = strtab.sh_offset;
  names_len = strtab.sh_size;
}

abbrev pub located_by : List ℕ → Header → Option ℕ → Location
located_by file header None = Nothing
located_by file header (Some index) =
    let symtab = section_at file header.e_shoff index in
    let strtab = section_at file header.e_shoff symtab.sh_link in
    if is_whole (length file) header symtab strtab then At (place_of symtab strtab) else Broken

-- where the symbol table of a file lies
unfoldable pub located : List ℕ → Location
located file =
    let header = header_of file in
    if not (is_elf32 file) then Broken
    else if header.e_shnum == 0 then Nothing
    else if not (header.e_shentsize == 40) || nat_lt (length file) (header.e_shoff + 40 * header.e_shnum) then Broken
    else located_by file header (first_symtab file header)
