-- the system calls that programs may make: write and exit of Linux (its RISC-V numbering and its error numbers)
use Rattle.std.specs.Prelude.{ℕ, ◌-◌, ◌%◌, ◌^◌, ◌==◌, ◌||◌, not, if◌then◌else◌, min, List}
use Rattle.el_base.specs.declared.line.TheConstants.{LINE_BYTES}
use Rattle.rv_alu.specs.declared.action.Action.{Action}
use Rattle.rv_alu.specs.declared.action.Action.TheVariants.{Answer, Append, Exit}
use Rattle.rv_alu.specs.declared.span.Span.{Span}
use Rattle.rv_alu.specs.Regs.{a0, a1, a2, a7, get}
use Rattle.rv_alu.specs.Span.{holds}

-- the numbers of the calls
abbrev pub write_number : ℕ
write_number = 64

abbrev pub exit_number : ℕ
exit_number = 93

-- the error numbers of a bad file, a bad address, no space, and a call that is not there
abbrev pub ebadf : ℕ
ebadf = 9

abbrev pub efault : ℕ
efault = 14

abbrev pub enospc : ℕ
enospc = 28

abbrev pub enosys : ℕ
enosys = 38

-- an error number as a call answers it, negative
abbrev pub error_of : ℕ → ℕ
error_of number = 2 ^ 32 - number

-- a write to file a0 of a2 bytes from a1 on, where the output has room for so many bytes: it appends
-- no more bytes than are left in their line
abbrev pub write_call_of : List ℕ → Span → ℕ → Action
write_call_of regs span room =
    let address = get regs a1 in
    if not ((get regs a0 == 1) || (get regs a0 == 2)) then Answer (error_of ebadf)
    else if get regs a2 == 0 then Answer 0
    else if not (holds span (address - address % LINE_BYTES) LINE_BYTES) then Answer (error_of efault)
    else if room == 0 then Answer (error_of enospc)
    else Append address (min (get regs a2) (min (LINE_BYTES - address % LINE_BYTES) room))

-- a system call, by its number in a7
abbrev pub call_of : List ℕ → Span → ℕ → Action
call_of regs span room =
    if get regs a7 == exit_number then Exit (get regs a0)
    else if get regs a7 == write_number then write_call_of regs span room
    else Answer (error_of enosys)
