-- Where branches and jumps go.
use Rattle.std.specs.Prelude.{ℕ, ℤ, ◌+◌, ◌%◌, ◌^◌, Option, Some, None}
use Rattle.std.specs.Int.{cast_unsigned, w32}
use Rattle.rv_word.specs.declared.insn.Insn.{Insn}
use Rattle.rv_word.specs.declared.insn.Insn.TheVariants.{Branch, Jal}

-- an address and an offset from it, which wraps at 2^32
abbrev pub moved : ℕ → ℤ → ℕ
moved address offset = (address + cast_unsigned w32 offset) % 2 ^ 32

abbrev pub target_of : Insn → ℕ → Option ℕ
target_of (Jal rd offset) address = Some (moved address offset)
target_of (Branch test rs1 rs2 offset) address = Some (moved address offset)
target_of _ _ = None
