-- the 32 integer registers, as a list of words of which the first is 0
use Rattle.std.specs.Prelude.{ℕ, ◌≡◌, List, length, slice_index, slice_set, if◌then◌else◌, nat_eq}

-- the word in a register
abbrev pub get : List ℕ → ℕ → ℕ
get regs reg = slice_index regs reg

-- the registers after a write, which register 0 ignores
abbrev pub set : List ℕ → ℕ → ℕ → List ℕ
set regs reg value = if nat_eq reg 0 then regs else slice_set regs reg value

-- 32 registers of which the first is 0
abbrev pub AreRegs : List ℕ → Type 0
AreRegs regs = (length regs ≡ 32) × (slice_index regs 0 ≡ 0)

-- the registers that a call and the start of a hart use, under their names in the calling convention
abbrev pub sp : ℕ
sp = 2

abbrev pub a0 : ℕ
a0 = 10

abbrev pub a1 : ℕ
a1 = 11

abbrev pub a2 : ℕ
a2 = 12

abbrev pub a7 : ℕ
a7 = 17
