-- The definitions, computed at the edges of their ranges.
use Rattle.std.proofs.Common.{◌≡◌, ℕ, pos, negsuc, List, true, false, None, Some, refl, lit<}
use Rattle.std.specs.Prelude.{replicate}
use Rattle.rv_word.specs.declared.insn.Alu.TheVariants as alus
use Rattle.rv_word.specs.declared.insn.AmoOp.TheVariants as amos
use Rattle.rv_word.specs.declared.insn.Insn.TheVariants as insns
use Rattle.rv_word.specs.declared.insn.LoadWidth.TheVariants as loads
use Rattle.rv_word.specs.declared.insn.StoreWidth.TheVariants as stores
use Rattle.rv_word.specs.declared.insn.Test.TheVariants as tests
use Rattle.rv_word.specs.declared.reg.Reg.{Reg}
use Rattle.rv_alu.specs.declared.footprint.Access.{Access}
use Rattle.rv_alu.specs.declared.footprint.Access.TheVariants.{Nothing, Read, Write, Trap, Exit}
use Rattle.rv_alu.specs.declared.span.Span.{Span}
use Rattle.rv_alu.specs.declared.action.Action.TheVariants.{Answer, Append}
use Rattle.rv_alu.specs.Action.{action_of}
use Rattle.rv_alu.specs.Footprint.{access_of}
use Rattle.rv_alu.specs.Operation.{alu_of, amo_of, extend_of, taken_of}
use Rattle.rv_alu.specs.Regs.{set}
use Rattle.rv_alu.specs.Syscall.{call_of, write_call_of}

-- register operations
below_zero : alu_of alus.Sub 0 1 ≡ 0xffffffff
below_zero = refl

shift_by_33 : alu_of alus.Sll 1 33 ≡ 2
shift_by_33 = refl

least_is_less_signed : alu_of alus.Slt 0x80000000 0 ≡ 1
least_is_less_signed = refl

least_is_greater_unsigned : alu_of alus.Sltu 0x80000000 0 ≡ 0
least_is_greater_unsigned = refl

shift_with_zeros : alu_of alus.Srl 0x80000000 31 ≡ 1
shift_with_zeros = refl

shift_with_the_sign : alu_of alus.Sra 0x80000000 31 ≡ 0xffffffff
shift_with_the_sign = refl

-- products: the least number squared, and -1 by the greatest unsigned number
upper_word_signed : alu_of alus.Mulh 0x80000000 0x80000000 ≡ 0x40000000
upper_word_signed = refl

upper_word_mixed : alu_of alus.Mulhsu 0xffffffff 0xffffffff ≡ 0xffffffff
upper_word_mixed = refl

upper_word_unsigned : alu_of alus.Mulhu 0xffffffff 0xffffffff ≡ 0xfffffffe
upper_word_unsigned = refl

-- -7 divided by 2, and by 0, and the least number divided by -1
quotient_toward_zero : alu_of alus.Div 0xfffffff9 2 ≡ 0xfffffffd
quotient_toward_zero = refl

remainder_with_its_sign : alu_of alus.Rem 0xfffffff9 2 ≡ 0xffffffff
remainder_with_its_sign = refl

division_by_zero : alu_of alus.Div 0xfffffff9 0 ≡ 0xffffffff
division_by_zero = refl

remainder_by_zero : alu_of alus.Rem 0xfffffff9 0 ≡ 0xfffffff9
remainder_by_zero = refl

quotient_too_large : alu_of alus.Div 0x80000000 0xffffffff ≡ 0x80000000
quotient_too_large = refl

remainder_of_the_same : alu_of alus.Rem 0x80000000 0xffffffff ≡ 0
remainder_of_the_same = refl

-- branches
equal_is_not_less : taken_of tests.Lt 7 7 ≡ false
equal_is_not_less = refl

equal_is_not_below : taken_of tests.Geu 7 7 ≡ true
equal_is_not_below = refl

-- atomic operations, on -1 and 1
lesser_signed : amo_of amos.Min 0xffffffff 1 ≡ 0xffffffff
lesser_signed = refl

lesser_unsigned : amo_of amos.Minu 0xffffffff 1 ≡ 1
lesser_unsigned = refl

greater_signed : amo_of amos.Max 0xffffffff 1 ≡ 1
greater_signed = refl

greater_unsigned : amo_of amos.Maxu 0xffffffff 1 ≡ 0xffffffff
greater_unsigned = refl

-- loads
byte_with_its_sign : extend_of loads.Byte 0x80 ≡ 0xffffff80
byte_with_its_sign = refl

byte_without : extend_of loads.ByteU 0x80 ≡ 0x80
byte_without = refl

half_with_its_sign : extend_of loads.Half 0xfffe ≡ 0xfffffffe
half_with_its_sign = refl

-- memory of one line
abbrev line : Span
line = record { base = 0x10000; end = 0x10040 }

abbrev target : Reg
target = record { number = 5; small = lit< tt }

abbrev source : Reg
source = record { number = 6; small = lit< tt }

-- x6 has this value, and every other register 0
abbrev through : ℕ → List ℕ
through address = set (replicate 32 0) 6 address

abbrev loading : ℕ → Access
loading address = access_of (insns.Load loads.Word target source (pos 0)) 0x10000 (through address) None line 0

abbrev storing : ℕ → Access
storing address = access_of (insns.Store stores.Word source target (pos 0)) 0x10000 (through address) None line 0

first_word : loading 0x10000 ≡ Read 0x10000 4
unfolding action_of
first_word = refl

-- misalignment is tested before the bounds of memory
misaligned_load : loading 2 ≡ Trap 4
unfolding action_of
misaligned_load = refl

load_behind_the_end : loading 0x10040 ≡ Trap 5
unfolding action_of
load_behind_the_end = refl

misaligned_store : storing 2 ≡ Trap 6
unfolding action_of
misaligned_store = refl

store_behind_the_end : storing 0x10040 ≡ Trap 7
unfolding action_of
store_behind_the_end = refl

offset_wraps : access_of (insns.Load loads.Byte target source (negsuc 0)) 0x10000 (through 0x10040) None line 0
    ≡ Read 0x1003f 1
unfolding action_of
offset_wraps = refl

-- a store conditional touches its word where that is reserved
reserved : access_of (insns.Sc target source target false false) 0x10000 (through 0x10004) (Some 0x10004) line 0
    ≡ Write 0x10004 4
unfolding action_of
reserved = refl

other_word_reserved : access_of (insns.Sc target source target false false) 0x10000 (through 0x10004) (Some 0x10000)
    line 0 ≡ Nothing
unfolding action_of
other_word_reserved = refl

-- jumps to a multiple of 2, and to an odd address, whose lowest bit is cleared
jump_to_a_multiple_of_2 : access_of (insns.Jal target (pos 6)) 0x10000 (through 0) None line 0 ≡ Trap 0
unfolding action_of
jump_to_a_multiple_of_2 = refl

jump_to_an_odd_address : access_of (insns.Jalr target source (pos 1)) 0x10000 (through 0x10008) None line 0 ≡ Nothing
unfolding action_of
jump_to_an_odd_address = refl

breakpoint : access_of insns.Ebreak 0x10000 (through 0) None line 0 ≡ Trap 3
unfolding action_of
breakpoint = refl

-- a call of this number with these arguments in x10 to x12
abbrev calling : ℕ → ℕ → ℕ → ℕ → List ℕ
calling number x10 x11 x12 = set (set (set (set (replicate 32 0) 17 number) 10 x10) 11 x11) 12 x12

exits : access_of insns.Ecall 0x10000 (calling 93 7 0 0) None line 0 ≡ Exit 7
unfolding action_of
exits = refl

-- writes stop at the end of their line, and at the room
to_the_end_of_the_line : access_of insns.Ecall 0x10000 (calling 64 1 0x10036 200) None line 1000 ≡ Read 0x10036 10
unfolding action_of
to_the_end_of_the_line = refl

to_the_room : write_call_of (calling 64 2 0x10036 200) line 3 ≡ Append 0x10036 3
to_the_room = refl

no_room : write_call_of (calling 64 1 0x10036 200) line 0 ≡ Answer 0xffffffe4
no_room = refl

no_such_file : write_call_of (calling 64 3 0x10036 200) line 1000 ≡ Answer 0xfffffff7
no_such_file = refl

outside_memory : write_call_of (calling 64 1 0x10040 200) line 1000 ≡ Answer 0xfffffff2
outside_memory = refl

nothing_to_write : write_call_of (calling 64 1 0 0) line 1000 ≡ Answer 0
nothing_to_write = refl

no_such_call : call_of (calling 94 0 0 0) line 1000 ≡ Answer 0xffffffda
no_such_call = refl
