-- what the next instruction of a hart is to the rules, in a state of plain shared memory
use Rattle.std.specs.Prelude.{ℕ, ◌+◌, Bool, true, false, ◌&&◌, ◌||◌, Option, None, Some, not, ◌==◌, nat_lt}
use Rattle.std.specs.Prelude.{if◌then◌else◌}
use Rattle.rv_flat.specs.Program.{code_word}
use Rattle.el_base.specs.Line.{line_number}
use Rattle.el_base.specs.declared.outcomes.Need.{Need}
use Rattle.el_base.specs.declared.outcomes.Need.TheVariants as needs
use Rattle.rv_alu.specs.Execution.{Execution, Goes, Stops, Store, store_in, touched}
use Rattle.rv_alu.specs.Footprint as conditional
use Rattle.rv_alu.specs.Footprint.{is_call}
use Rattle.rv_alu.specs.Loaded.{loaded}
use Rattle.rv_alu.specs.declared.footprint.Access.{Access}
use Rattle.rv_alu.specs.declared.footprint.Access.TheVariants.{Nothing, Read, Write, Trap, Exit}
use Rattle.rv_flat.specs.FlatState.{FlatState, room_of, span_of, view_of}
use Rattle.rv_flat.specs.Laws.{next_insn}
use Rattle.rv_flat.specs.Memory.{byte_in}
use Rattle.rv_flat.specs.Step.{execution_of}
use Rattle.rv_word.specs.declared.insn.AmoOp.TheVariants as amos
use Rattle.rv_word.specs.declared.insn.AmoOp.{AmoOp}
use Rattle.rv_word.specs.declared.insn.Insn.{Insn}
use Rattle.rv_word.specs.declared.insn.Insn.TheVariants as insns
use Rattle.rv_word.specs.declared.insn.StoreWidth.TheVariants as widths
use Rattle.rv_word.specs.declared.insn.StoreWidth.{StoreWidth}

-- the line that an instruction touches, and what it needs of it
pub record Touch : Type 0 where
  pub line : ℕ
  pub need : Need

-- a swap, or a pair of LR and SC, as far as it exchanges a word: its address, the word that it finds
-- there, and the one that it stores
pub record Swap : Type 0 where
  pub word : ℕ
  pub old : ℕ
  pub new : ℕ

-- what an access touches
abbrev pub touch_of : Access → Option Touch
touch_of (Read address len) = Some (record { line = line_number address; need = needs.Read })
touch_of (Write address len) = Some (record { line = line_number address; need = needs.Write })
touch_of Nothing = None
touch_of (Trap cause) = None
touch_of (Exit code) = None

-- the next instruction of a hart: what it accesses, and what it does
abbrev pub next_access : FlatState → ℕ → Access
next_access flat h =
    touched (code_word flat.code (view_of flat h).pc) (view_of flat h) (span_of flat) (room_of flat)

abbrev pub next_execution : FlatState → ℕ → Execution
next_execution flat h = execution_of flat (view_of flat h)

-- the line that it touches, if it touches one
abbrev pub next_touch : FlatState → ℕ → Option Touch
next_touch flat h = touch_of (next_access flat h)

-- what it stores
abbrev pub next_store : FlatState → ℕ → Option Store
next_store flat h = store_in (next_execution flat h)

-- whether it stops its hart
abbrev pub stops : Execution → Bool
stops (Stops status) = true
stops (Goes view store append) = false

-- the operation of a swap, and the instruction that stores a word
abbrev pub is_swap_op : AmoOp → Bool
is_swap_op amos.Swap = true
is_swap_op _ = false

abbrev pub is_swap : Option Insn → Bool
is_swap (Some (insns.Amo op rd rs1 rs2 aq rl)) = is_swap_op op
is_swap _ = false

-- the instructions that reserve a word, and that store to it where it is still reserved
abbrev pub is_load_reserved : Option Insn → Bool
is_load_reserved (Some (insns.Lr rd rs1 aq rl)) = true
is_load_reserved _ = false

abbrev pub is_store_conditional : Option Insn → Bool
is_store_conditional None = false
is_store_conditional (Some insn) = conditional.is_store_conditional insn

abbrev pub is_word : StoreWidth → Bool
is_word widths.Word = true
is_word _ = false

abbrev pub is_word_store : Option Insn → Bool
is_word_store (Some (insns.Store width rs1 rs2 offset)) = is_word width
is_word_store _ = false

-- whether it makes a system call
abbrev pub calls : Option Insn → Bool
calls None = false
calls (Some insn) = is_call insn

-- a swap with its word, of what it stores
abbrev pub swap_of : FlatState → Option Store → Option Swap
swap_of flat None = None
swap_of flat (Some store) = Some (record {
  word = store.address;
  old = loaded (byte_in flat.base flat.bytes) store.address 4;
  new = store.value;
})

-- the hart's next instruction where it is a swap that does not trap
abbrev pub next_swap : FlatState → ℕ → Option Swap
next_swap flat h = if is_swap (next_insn flat h) then swap_of flat (next_store flat h) else None

-- the same where it is an SC that succeeds: it finds the word that the LR before it has read, unless that was stored to
-- since, and then it finds what was stored
abbrev pub next_conditional : FlatState → ℕ → Option Swap
next_conditional flat h = if is_store_conditional (next_insn flat h) then swap_of flat (next_store flat h) else None

-- the hart's next instruction where it exchanges a word: a swap that does not trap, or an SC that succeeds
abbrev pub next_exchange : FlatState → ℕ → Option Swap
next_exchange flat h =
    if is_swap (next_insn flat h) || is_store_conditional (next_insn flat h)
    then swap_of flat (next_store flat h) else None

-- the address that an access reads
abbrev pub read_at : Access → Option ℕ
read_at (Read address len) = Some address
read_at Nothing = None
read_at (Write address len) = None
read_at (Trap cause) = None
read_at (Exit code) = None

-- the word of the hart's next instruction where it is an LR that does not trap
abbrev pub next_reserved : FlatState → ℕ → Option ℕ
next_reserved flat h = if is_load_reserved (next_insn flat h) then read_at (next_access flat h) else None

-- whether a swap changes its word, which makes it a candidate for an acquire
abbrev pub changes_word : Swap → Bool
changes_word swap = not (swap.old == swap.new)

-- whether a store is of the whole of a word with a value
abbrev pub gives_back : ℕ → ℕ → Option Store → Bool
gives_back word old None = false
gives_back word old (Some store) = (store.address == word) && (store.value == old)

-- whether the next instruction is the release of a word: SW or a swap that stores its old value
abbrev pub is_release : FlatState → ℕ → ℕ → ℕ → Bool
is_release flat h word old =
    (is_word_store (next_insn flat h) || is_swap (next_insn flat h)) && gives_back word old (next_store flat h)

-- whether a store is to a byte of a word
abbrev pub overlaps : ℕ → Option Store → Bool
overlaps word None = false
overlaps word (Some store) = nat_lt store.address (word + 4) && nat_lt word (store.address + store.len)

abbrev pub stores_to_word : FlatState → ℕ → ℕ → Bool
stores_to_word flat h word = overlaps word (next_store flat h)

-- whether the next instruction is a call, or would stop its hart
abbrev pub calls_or_stops : FlatState → ℕ → Bool
calls_or_stops flat h = calls (next_insn flat h) || stops (next_execution flat h)
