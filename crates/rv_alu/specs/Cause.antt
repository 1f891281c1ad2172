-- why an instruction traps: the exception codes of `mcause` (RISC-V privileged manual, 'Machine Cause Register')
use Rattle.std.specs.Prelude.{ℕ}

-- a jump or a taken branch to an address that is no multiple of 4
abbrev pub instruction_address_misaligned : ℕ
instruction_address_misaligned = 0

-- no code stands at the pc
abbrev pub instruction_access_fault : ℕ
instruction_access_fault = 1

-- the word at the pc means no instruction
abbrev pub illegal_instruction : ℕ
illegal_instruction = 2

-- an EBREAK
abbrev pub breakpoint : ℕ
breakpoint = 3

-- a load or LR at an address that is no multiple of its size
abbrev pub load_address_misaligned : ℕ
load_address_misaligned = 4

-- a load or LR outside memory
abbrev pub load_access_fault : ℕ
load_access_fault = 5

-- a store, SC or atomic operation at an address that is no multiple of its size
abbrev pub store_address_misaligned : ℕ
store_address_misaligned = 6

-- a store, SC or atomic operation outside memory
abbrev pub store_access_fault : ℕ
store_access_fault = 7
