-- An image that is built: words at a base, and behind them data, which is bytes and then zeros.
use Rattle.std.specs.Prelude.{◌≡◌, ◌≤◌, ◌<◌, ℕ, ◌+◌, ◌-◌, ◌*◌, ◌%◌, List, [], ◌∷◌, ◌++◌, length, replicate}
use Rattle.elf_image.specs.declared.built.Built.{Built}
use Rattle.elf_image.specs.declared.header.FileHeader.{FileHeader}
use Rattle.elf_image.specs.declared.program_header.ProgramHeader.{ProgramHeader}
use Rattle.elf_image.specs.Header.{file_header_bytes, program_header_bytes}
use Rattle.elf_image.specs.Layout.{round_up}
use Rattle.elf_image.specs.Limits.{built_end_limit, built_limit, line_size, page_size, stack_size}
use Rattle.elf_image.specs.Numbers.{word_bytes}
use Rattle.elf_image.specs.Program.{Program}

-- how many bytes the words have
abbrev pub words_len : Built → ℕ
words_len built = 4 * length built.words.items

-- the address behind the words
abbrev pub words_end : Built → ℕ
words_end built = built.base + words_len built

-- the data begins on a page of its own
abbrev pub data_start : Built → ℕ
data_start built = round_up page_size (words_end built)

-- how many bytes the data has, zeros among them
abbrev pub data_len : Built → ℕ
data_len built = length built.bytes.items + built.zeros

-- the address behind the data
abbrev pub data_end : Built → ℕ
data_end built = data_start built + data_len built

-- what can be written
pub record IsBuildable (built : Built) : Type 0 where
  pub base_on_page : built.base % page_size ≡ 0
  pub some_word : 1 ≤ length built.words.items
  pub some_data : 1 ≤ data_len built
  pub entry_not_before : built.base ≤ built.entry
  pub entry_not_behind : built.entry < words_end built
  pub entry_at_word : built.entry % 4 ≡ 0
  pub not_large : words_len built + data_len built ≤ built_limit
  pub not_high : data_end built < built_end_limit

-- The file

-- the ELF header: an executable for RISC-V with two program headers
abbrev pub built_header : Built → FileHeader
built_header built = record {
  e_type = 2;
  e_machine = 243;
  e_version = 1;
  e_entry = built.entry;
  e_phoff = 52;
  e_flags = 0;
  e_ehsize = 52;
  e_phentsize = 32;
  e_phnum = 2;
}

-- the segment of the words, which is read and executed
abbrev pub words_header : Built → ProgramHeader
words_header built = record {
  place = 52;
  p_type = 1;
  p_offset = 116;
  p_vaddr = built.base;
  p_filesz = words_len built;
  p_memsz = words_len built;
  p_flags = 5;
}

-- the segment of the data, which is read and written
abbrev pub data_header : Built → ProgramHeader
data_header built = record {
  place = 84;
  p_type = 1;
  p_offset = 116 + words_len built;
  p_vaddr = data_start built;
  p_filesz = length built.bytes.items;
  p_memsz = data_len built;
  p_flags = 6;
}

-- the headers, the words and the bytes, one behind the other
unfoldable pub image_file : Built → List ℕ
image_file built =
    file_header_bytes (built_header built)
    ++ program_header_bytes (words_header built)
    ++ program_header_bytes (data_header built)
    ++ word_bytes built.words.items
    ++ built.bytes.items

-- The program

-- memory: the words, zeros up to the data, its bytes, and zeros up to the end of so many stacks
unfoldable pub built_memory : Built → ℕ → List ℕ
built_memory built harts =
    word_bytes built.words.items
    ++ replicate (data_start built - words_end built) 0
    ++ built.bytes.items
    ++ replicate (built.zeros + (round_up line_size (data_end built) - data_end built) + stack_size * harts) 0

-- the program for so many harts
unfoldable pub built_program : Built → ℕ → Program
built_program built harts = record {
  base = built.base;
  bytes = built_memory built harts;
  entry = built.entry;
  harts = harts;
  code = record { start = built.base; bytes = word_bytes built.words.items } ∷ [];
}
