-- the instructions of a code, and those of them that are kept
use Rattle.std.specs.Prelude.{ℕ, ◌/◌, ◌%◌, ◌≡◌, List, Option, Some, None, IfSome}
use Rattle.elf_image.specs.Program.{CodeSegment, code_word}
use Rattle.fetch.specs.declared.decoded.Decoded.{Decoded}
use Rattle.rv_word.specs.Decoding.{decoded}
use Rattle.rv_word.specs.declared.insn.Insn.{Insn}

-- the instruction of a word, where there is a word and it means one
abbrev pub insn_at : Option ℕ → Option Insn
insn_at None = None
insn_at (Some word) = decoded word

-- the instruction at a code address
abbrev pub insn_in : List CodeSegment → ℕ → Option Insn
insn_in code pc = insn_at (code_word code pc)

-- what a slot may keep: nothing, or an instruction of the code with its address
abbrev pub IsKept : List CodeSegment → Option Decoded → Type 0
IsKept code slot = IfSome slot (λ kept. insn_in code kept.pc ≡ Some kept.insn)

-- the slot of a code address
abbrev pub slot_number : ℕ → ℕ
slot_number pc = (pc / 4) % 1024
