-- what an instruction touches, or how it stops its hart
use Rattle.std.specs.Prelude.{ℕ, Bool, true, false, ◌+◌, ◌%◌, ◌≤◌, ◌<◌, ◌≡◌, ◌⊎◌, List, Option, None, Some}
use Rattle.std.specs.Bool.{MatchBool}
use Rattle.el_base.specs.declared.line.TheConstants.{LINE_BYTES}
use Rattle.rv_word.specs.declared.insn.Insn.{Insn}
use Rattle.rv_word.specs.declared.insn.Insn.TheVariants as insns
use Rattle.rv_alu.specs.declared.action.Action.{Action}
use Rattle.rv_alu.specs.declared.action.Action.TheVariants as actions
use Rattle.rv_alu.specs.declared.footprint.Access.{Access}
use Rattle.rv_alu.specs.declared.footprint.Access.TheVariants.{Nothing, Read, Write, Trap, Exit}
use Rattle.rv_alu.specs.declared.span.Span.{Span}
use Rattle.rv_alu.specs.declared.transfers.Append.{Append}
use Rattle.rv_alu.specs.declared.transfers.Load.{Load}
use Rattle.rv_alu.specs.declared.transfers.Store.{Store}
use Rattle.rv_alu.specs.Action.{action_of, load_size_of}

-- the footprint of an action
abbrev pub footprint : Action → Access
footprint (actions.Trap cause) = Trap cause
footprint (actions.Exit code) = Exit code
footprint (actions.Put rd value) = Nothing
footprint (actions.JumpAndLink rd target) = Nothing
footprint (actions.Go target) = Nothing
footprint (actions.Answer value) = Nothing
footprint (actions.Append address len) = Read address len
footprint (actions.Load width rd address) = Read address (load_size_of width)
footprint (actions.LoadReserved rd address) = Read address 4
footprint (actions.Store address len value) = Write address len
footprint (actions.StoreConditional rd address value) = Write address 4
footprint (actions.Fail rd) = Nothing
footprint (actions.Amo op rd address source) = Write address 4

-- the access of an instruction
abbrev pub access_of : Insn → ℕ → List ℕ → Option ℕ → Span → ℕ → Access
access_of insn pc regs reserved span room = footprint (action_of insn pc regs reserved span room)

-- an address is one that the access touches
abbrev pub Touches : Access → ℕ → Type 0
Touches (Read from len) address = (from ≤ address) × (address < from + len)
Touches (Write from len) address = (from ≤ address) × (address < from + len)
Touches Nothing address = ⊥
Touches (Trap cause) address = ⊥
Touches (Exit code) address = ⊥

-- the access writes nothing
abbrev pub IsNoWrite : Access → Type 0
IsNoWrite (Write from len) = ⊥
IsNoWrite _ = Unit {0}

-- two memories have the same bytes wherever the access touches them
abbrev pub AgreeOn : Access → (ℕ → ℕ) → (ℕ → ℕ) → Type 0
AgreeOn access left right = (address : ℕ) → Touches access address → left address ≡ right address

-- a piece of memory in one line
pub record IsPiece (span : Span) (address len : ℕ) : Type 0 where
  pub some : 1 ≤ len
  pub one_line : address % LINE_BYTES + len ≤ LINE_BYTES
  pub from_base : span.base ≤ address
  pub before_end : address + len ≤ span.end

-- the sizes of loads and stores
abbrev pub IsSize : ℕ → Type 0
IsSize size = (size ≡ 1) ⊎ (size ≡ 2) ⊎ (size ≡ 4)

-- whether an instruction makes a system call
abbrev pub is_call : Insn → Bool
is_call insns.Ecall = true
is_call _ = false

-- no call is next
abbrev pub IsNoCall : Option Insn → Type 0
IsNoCall None = Unit {0}
IsNoCall (Some insn) = is_call insn ≡ false

-- whether an instruction is a store conditional
abbrev pub is_store_conditional : Insn → Bool
is_store_conditional (insns.Sc rd rs1 rs2 aq rl) = true
is_store_conditional _ = false

-- no store conditional is next
abbrev pub IsNoStoreConditional : Option Insn → Type 0
IsNoStoreConditional None = Unit {0}
IsNoStoreConditional (Some insn) = is_store_conditional insn ≡ false

-- how much an instruction reads: a call no more than the output has room for, and else up to a word
abbrev pub IsReadOf : Insn → ℕ → ℕ → Type 0
IsReadOf insn room len = MatchBool (is_call insn) (len ≤ room) (IsSize len)

-- what an instruction touches: a piece of one line of memory, and only a call touches more than a word
abbrev pub IsFootprint : Insn → Span → ℕ → Access → Type 0
IsFootprint insn span room (Read address len) = IsPiece span address len × IsReadOf insn room len
IsFootprint insn span room (Write address len) = IsPiece span address len × IsSize len
IsFootprint insn span room Nothing = Unit {0}
IsFootprint insn span room (Trap cause) = Unit {0}
IsFootprint insn span room (Exit code) = Unit {0}

-- where an instruction loads, stores and appends: in one line of memory, and where the output has room
abbrev pub IsLoadIn : Span → Load → Type 0
IsLoadIn span load = IsPiece span load.address load.len × IsSize load.len

abbrev pub IsStoreIn : Span → Store → Type 0
IsStoreIn span store = IsPiece span store.address store.len × IsSize store.len

abbrev pub IsAppendIn : Span → ℕ → Append → Type 0
IsAppendIn span room append = IsPiece span append.address append.len × (append.len ≤ room)

-- the same of all that an action loads, stores or appends
abbrev pub IsInPlace : Span → ℕ → Action → Type 0
IsInPlace span room (actions.Append address len) = IsPiece span address len × (len ≤ room)
IsInPlace span room (actions.Load width rd address) =
    IsPiece span address (load_size_of width) × IsSize (load_size_of width)
IsInPlace span room (actions.LoadReserved rd address) = IsPiece span address 4
IsInPlace span room (actions.Store address len value) = IsPiece span address len × IsSize len
IsInPlace span room (actions.StoreConditional rd address value) = IsPiece span address 4
IsInPlace span room (actions.Amo op rd address source) = IsPiece span address 4
IsInPlace span room _ = Unit {0}
