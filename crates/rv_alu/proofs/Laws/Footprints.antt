-- what an access touches is in memory and in one line
use Rattle.std.proofs.Common.{◌≡◌, ℕ, ◌+◌, ◌-◌, ◌%◌, ◌≤◌, Bool, true, false, inl, inr, List, Option, arith, refl}
use Rattle.std.specs.Prelude.{◌==◌, if◌then◌else◌, ◌||◌, not, min}
use Rattle.std.proofs.lemmas.Bool.Decides.{nat_tests}
use Rattle.el_base.specs.declared.line.TheConstants.{LINE_BYTES}
use Rattle.rv_word.specs.declared.insn.Insn.{Insn}
use Rattle.rv_word.specs.declared.insn.Insn.TheVariants as insns
use Rattle.rv_word.specs.declared.insn.LoadWidth.{LoadWidth}
use Rattle.rv_word.specs.declared.insn.LoadWidth.TheVariants as loads
use Rattle.rv_word.specs.declared.insn.StoreWidth.{StoreWidth}
use Rattle.rv_word.specs.declared.insn.StoreWidth.TheVariants as stores
use Rattle.rv_word.specs.declared.reg.Reg.{Reg}
use Rattle.rv_alu.specs.declared.action.Action.{Action}
use Rattle.rv_alu.specs.declared.action.Action.TheVariants.{Answer, Append, Trap, JumpAndLink, Go}
use Rattle.rv_alu.specs.declared.span.Span.{Span}
use Rattle.rv_alu.specs.Action.{action_of, checked_of, has_reserved_of, indirect_of, jump_of, load_size_of, next_pc_of}
use Rattle.rv_alu.specs.Action.{store_size_of}
use Rattle.rv_alu.specs.Cause.{instruction_address_misaligned}
use Rattle.rv_alu.specs.Footprint.{IsFootprint, IsInPlace, IsPiece, IsSize, footprint}
use Rattle.rv_alu.specs.Operation.{moved_of, taken_of}
use Rattle.rv_alu.specs.Regs.{a0, a1, a2, a7, get}
use Rattle.rv_alu.specs.Span.{holds}
use Rattle.rv_alu.specs.Syscall.{call_of, exit_number, write_call_of, write_number}

half_in_line : (address : ℕ) → address % 2 ≡ 0 → address % LINE_BYTES + 2 ≤ LINE_BYTES
half_in_line address h = omega arith

word_in_line : (address : ℕ) → address % 4 ≡ 0 → address % LINE_BYTES + 4 ≤ LINE_BYTES
word_in_line address h = omega arith

byte_in_line : (address : ℕ) → address % LINE_BYTES + 1 ≤ LINE_BYTES
byte_in_line address = omega arith

-- an aligned piece of such a size is in one line
in_line : (address size : ℕ) → IsSize size → address % size ≡ 0 → address % LINE_BYTES + size ≤ LINE_BYTES
in_line address size (inl one) h = rw one (byte_in_line address)
in_line address size (inr (inl two)) h = rw two (half_in_line address (rw two at h))
in_line address size (inr (inr four)) h = rw four (word_in_line address (rw four at h))

some_size : (size : ℕ) → IsSize size → 1 ≤ size
some_size size (inl one) = omega arith
some_size size (inr (inl two)) = omega arith
some_size size (inr (inr four)) = omega arith

-- an aligned piece of such a size, in memory, is a piece of one line
piece : (span : Span) (address size : ℕ) → IsSize size → (address % size == 0) ≡ true → holds span address size ≡ true →
    IsPiece span address size
piece span address size sized aligned held =
    record {
      some = some_size size sized;
      one_line = in_line address size sized (grind (arith, nat_tests));
      from_base = grind (arith, nat_tests);
      before_end = grind (arith, nat_tests);
    }

pub load_sized : (width : LoadWidth) → IsSize (load_size_of width)
load_sized loads.Byte = inl refl
load_sized loads.Half = inr (inl refl)
load_sized loads.Word = inr (inr refl)
load_sized loads.ByteU = inl refl
load_sized loads.HalfU = inr (inl refl)

pub store_sized : (width : StoreWidth) → IsSize (store_size_of width)
store_sized stores.Byte = inl refl
store_sized stores.Half = inr (inl refl)
store_sized stores.Word = inr (inr refl)

word_sized : IsSize 4
word_sized = inr (inr refl)

-- what an action of an instruction loads, stores or appends is in its place, and so is what it touches
pub record Fits (insn : Insn) (span : Span) (room : ℕ) (action : Action) : Type 0 where
  pub in_place : IsInPlace span room action
  pub footprint : IsFootprint insn span room (footprint action)

-- one of two actions
fits-if : (insn : Insn) (span : Span) (room : ℕ) (b : Bool) (x y : Action) → Fits insn span room x →
    Fits insn span room y → Fits insn span room (if b then x else y)
fits-if insn span room true x y hx hy = hx
fits-if insn span room false x y hx hy = hy

-- what touches no memory fits
fits-trap : (insn : Insn) (span : Span) (room cause : ℕ) → Fits insn span room (Trap cause)
fits-trap insn span room cause = record { in_place = tt; footprint = tt }

fits-jump_and_link : (insn : Insn) (span : Span) (room : ℕ) (rd : Reg) (target : ℕ) →
    Fits insn span room (JumpAndLink rd target)
fits-jump_and_link insn span room rd target = record { in_place = tt; footprint = tt }

fits-go : (insn : Insn) (span : Span) (room target : ℕ) → Fits insn span room (Go target)
fits-go insn span room target = record { in_place = tt; footprint = tt }

-- an access that may go ahead is a piece of one line
fits-checked : (insn : Insn) (span : Span) (room address size misaligned outside : ℕ) (action : Action) → IsSize size →
    (IsPiece span address size → Fits insn span room action) →
    Fits insn span room (checked_of span address size misaligned outside action)
fits-checked insn span room address size misaligned outside action sized fits =
    tested (address % size == 0) (holds span address size)
    (λ aligned held. fits (piece span address size sized aligned held))
  where
    tested : (b c : Bool) → (b ≡ true → c ≡ true → Fits insn span room action) →
        Fits insn span room (if b then (if c then action else Trap outside) else Trap misaligned)
    tested true true h = h refl refl
    tested true false h = fits-trap insn span room outside
    tested false c h = fits-trap insn span room misaligned

fits-jump : (insn : Insn) (span : Span) (room target : ℕ) (action : Action) → Fits insn span room action →
    Fits insn span room (jump_of target action)
fits-jump insn span room target action h =
    fits-if insn span room (target % 4 == 0) action (Trap instruction_address_misaligned) h
    (fits-trap insn span room instruction_address_misaligned)

-- what is left of a line in memory, or less of it
rest_of_line : (span : Span) (address count room : ℕ) → 1 ≤ count → 1 ≤ room →
    holds span (address - address % LINE_BYTES) LINE_BYTES ≡ true →
    IsPiece span address (min count (min (LINE_BYTES - address % LINE_BYTES) room))
rest_of_line span address count room some left held =
    record {
      some = grind arith;
      one_line = grind arith;
      from_base = grind (arith, nat_tests);
      before_end = grind (arith, nat_tests);
    }

-- what a write call appends, by how its four tests go
fits-appended : (span : Span) (address count room a b c d : ℕ) (file none lined full : Bool) →
    (none ≡ false → lined ≡ true → full ≡ false → IsPiece span address count × (count ≤ room)) →
    Fits insns.Ecall span room
    (if not file then Answer a else if none then Answer b else if not lined then Answer c else if full then Answer d
    else Append address count)
fits-appended span address count room a b c d true false true false h =
    let there : IsPiece span address count × (count ≤ room) = h refl refl refl in
    record { in_place = there; footprint = there }
fits-appended span address count room a b c d true false true true h = record { in_place = tt; footprint = tt }
fits-appended span address count room a b c d true false false full h = record { in_place = tt; footprint = tt }
fits-appended span address count room a b c d true true lined full h = record { in_place = tt; footprint = tt }
fits-appended span address count room a b c d false none lined full h = record { in_place = tt; footprint = tt }

fits-write_call : (regs : List ℕ) (span : Span) (room : ℕ) → Fits insns.Ecall span room (write_call_of regs span room)
fits-write_call regs span room =
    fits-appended span (get regs a1) (min (get regs a2) (min (LINE_BYTES - get regs a1 % LINE_BYTES) room)) room _ _ _ _
    ((get regs a0 == 1) || (get regs a0 == 2)) (get regs a2 == 0)
    (holds span (get regs a1 - get regs a1 % LINE_BYTES) LINE_BYTES) (room == 0)
    (λ none lined full. (
      rest_of_line span (get regs a1) (get regs a2) room (grind (arith, nat_tests)) (grind (arith, nat_tests)) lined,
      omega arith,
    ))

fits-call : (regs : List ℕ) (span : Span) (room : ℕ) → Fits insns.Ecall span room (call_of regs span room)
fits-call regs span room =
    fits-if insns.Ecall span room (get regs a7 == exit_number) _ _ (record { in_place = tt; footprint = tt })
    (fits-if insns.Ecall span room (get regs a7 == write_number) _ _ (fits-write_call regs span room)
    (record { in_place = tt; footprint = tt }))

-- the action of each instruction fits
pub fits : (insn : Insn) (pc : ℕ) (regs : List ℕ) (reserved : Option ℕ) (span : Span) (room : ℕ) →
    Fits insn span room (action_of insn pc regs reserved span room)
unfolding action_of
fits (insns.Lui rd imm) pc regs reserved span room = record { in_place = tt; footprint = tt }
fits (insns.Auipc rd imm) pc regs reserved span room = record { in_place = tt; footprint = tt }
fits (insns.Jal rd offset) pc regs reserved span room =
    let insn = insns.Jal rd offset in
    let target = moved_of pc offset in
    fits-jump insn span room target (JumpAndLink rd target) (fits-jump_and_link insn span room rd target)
fits (insns.Jalr rd rs1 offset) pc regs reserved span room =
    let insn = insns.Jalr rd rs1 offset in
    let target = indirect_of (moved_of (get regs rs1.number) offset) in
    fits-jump insn span room target (JumpAndLink rd target) (fits-jump_and_link insn span room rd target)
fits (insns.Branch test rs1 rs2 offset) pc regs reserved span room =
    let insn = insns.Branch test rs1 rs2 offset in
    let target = moved_of pc offset in
    fits-if insn span room (taken_of test (get regs rs1.number) (get regs rs2.number)) (jump_of target (Go target))
    (Go (next_pc_of pc))
    (fits-jump insn span room target (Go target) (fits-go insn span room target))
    (fits-go insn span room (next_pc_of pc))
fits (insns.Load width rd rs1 offset) pc regs reserved span room =
    fits-checked (insns.Load width rd rs1 offset) span room _ (load_size_of width) _ _ _ (load_sized width)
    (λ there. record { in_place = (there, load_sized width); footprint = (there, load_sized width) })
fits (insns.Store width rs1 rs2 offset) pc regs reserved span room =
    fits-checked (insns.Store width rs1 rs2 offset) span room _ (store_size_of width) _ _ _ (store_sized width)
    (λ there. record { in_place = (there, store_sized width); footprint = (there, store_sized width) })
fits (insns.OpImm op rd rs1 imm) pc regs reserved span room = record { in_place = tt; footprint = tt }
fits (insns.Op op rd rs1 rs2) pc regs reserved span room = record { in_place = tt; footprint = tt }
fits insns.Fence pc regs reserved span room = record { in_place = tt; footprint = tt }
fits insns.Ecall pc regs reserved span room = fits-call regs span room
fits insns.Ebreak pc regs reserved span room = record { in_place = tt; footprint = tt }
fits (insns.Lr rd rs1 aq rl) pc regs reserved span room =
    fits-checked (insns.Lr rd rs1 aq rl) span room _ 4 _ _ _ word_sized
    (λ there. record { in_place = there; footprint = (there, word_sized) })
fits (insns.Sc rd rs1 rs2 aq rl) pc regs reserved span room =
    fits-checked (insns.Sc rd rs1 rs2 aq rl) span room _ 4 _ _ _ word_sized
    (λ there. fits-if (insns.Sc rd rs1 rs2 aq rl) span room (has_reserved_of reserved (get regs rs1.number)) _ _
    (record { in_place = there; footprint = (there, word_sized) }) (record { in_place = tt; footprint = tt }))
fits (insns.Amo op rd rs1 rs2 aq rl) pc regs reserved span room =
    fits-checked (insns.Amo op rd rs1 rs2 aq rl) span room _ 4 _ _ _ word_sized
    (λ there. record { in_place = there; footprint = (there, word_sized) })
