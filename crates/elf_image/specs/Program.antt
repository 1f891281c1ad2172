-- A program in memory before its first step.
use Rattle.std.specs.Prelude.{◌≡◌, ◌≤◌, ℕ, ◌+◌, ◌-◌, ◌*◌, ◌%◌, Bool, ◌&&◌, nat_le, List, length, Option, IsSome, find}
use Rattle.std.specs.Prelude.{sum_by}
use Rattle.std.specs.Option.{option_map}
use Rattle.elf_image.specs.Limits.{end_limit, header_limit, line_size, memory_limit, stack_size}
use Rattle.elf_image.specs.Numbers.{word_at}

-- an executable segment as loaded: its first address and its bytes
pub record CodeSegment : Type 0 where
  pub start : ℕ
  pub bytes : List ℕ

-- the bytes of memory from base on, the address of the first instruction, the number of harts, and
-- what instructions are fetched from, which no store changes
pub record Program : Type 0 where
  pub base : ℕ
  pub bytes : List ℕ
  pub entry : ℕ
  pub harts : ℕ
  pub code : List CodeSegment

-- the program of these parts
abbrev pub program_from : ℕ → List ℕ → ℕ → ℕ → List CodeSegment → Program
program_from base bytes entry harts code =
    record { base = base; bytes = bytes; entry = entry; harts = harts; code = code }

-- the four bytes at pc all lie in the segment
abbrev pub has_word : ℕ → CodeSegment → Bool
has_word pc segment = nat_le segment.start pc && nat_le (pc + 4) (segment.start + length segment.bytes)

-- the word at pc of a segment that has it
abbrev pub segment_word : ℕ → CodeSegment → ℕ
segment_word pc segment = word_at segment.bytes (pc - segment.start)

-- the word at a code address: that of the segment that has all four bytes, or none
unfoldable pub code_word : List CodeSegment → ℕ → Option ℕ
code_word code pc = option_map (segment_word pc) (find (has_word pc) code)

-- the bytes in all the segments together
abbrev pub code_length : List CodeSegment → ℕ
code_length code = sum_by (λ segment. length segment.bytes) code

-- what is true of every accepted image
pub record IsProgram (program : Program) : Type 0 where
  pub some_hart : 1 ≤ program.harts
  pub few_harts : program.harts ≤ 8
  pub base_on_line : program.base % line_size ≡ 0
  pub length_on_line : length program.bytes % line_size ≡ 0
  pub stacks_fit : stack_size * program.harts ≤ length program.bytes
  pub not_wide : length program.bytes ≤ memory_limit
  pub not_high : program.base + length program.bytes ≤ end_limit
  pub entry_aligned : program.entry % 4 ≡ 0
  pub entry_in_code : IsSome (code_word program.code program.entry)
  pub few_segments : length program.code ≤ header_limit
  pub code_not_large : code_length program.code ≤ memory_limit
