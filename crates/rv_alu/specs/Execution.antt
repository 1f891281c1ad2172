-- what one instruction of a hart does, over any memory
use Rattle.std.specs.Prelude.{ℕ, Option, None, Some, option_map}
use Rattle.rv_word.specs.Decoding.{decoded}
use Rattle.rv_word.specs.declared.insn.Insn.{Insn}
use Rattle.rv_alu.specs.declared.action.Action.{Action}
use Rattle.rv_alu.specs.declared.action.Action.TheVariants as actions
use Rattle.rv_alu.specs.declared.footprint.Access.{Access}
use Rattle.rv_alu.specs.declared.footprint.Access.TheVariants.{Nothing}
use Rattle.rv_alu.specs.declared.span.Span.{Span}
use Rattle.rv_alu.specs.declared.transfers.Append as appends
use Rattle.rv_alu.specs.declared.transfers.Load.{Load}
use Rattle.rv_alu.specs.declared.transfers.Store as stores
use Rattle.rv_alu.specs.declared.view.HartStatus.{HartStatus}
use Rattle.rv_alu.specs.declared.view.HartStatus.TheVariants.{Exited, Trapped}
use Rattle.rv_alu.specs.declared.view.HartView.{HartView}
use Rattle.rv_alu.specs.Action.{action_at, load_size_of, next_pc_of}
use Rattle.rv_alu.specs.Footprint.{access_of}
use Rattle.rv_alu.specs.Loaded.{loaded}
use Rattle.rv_alu.specs.Operation.{amo_of, extend_of}
use Rattle.rv_alu.specs.Regs.{a0, set}

-- bytes that an instruction puts into memory, the low bytes of a value from an address on: `address`, `len`, `value`
abbrev pub Store : Type 0
Store = stores.Store

-- bytes of memory that a write call appends to the output: `address`, `len`
abbrev pub Append : Type 0
Append = appends.Append

-- what an instruction does: it traps or exits, and nothing else changes; or its hart goes on to a new view,
-- with at most one store and at most one piece of output
pub data Execution : Type 0 where
  Stops : HartStatus → Execution
  Goes : HartView → Option Store → Option Append → Execution

-- the hart goes on to the next instruction in memory
abbrev pub advance_of : HartView → HartView
advance_of view = record view { pc = next_pc_of view.pc }

-- the same, with a value in a register
abbrev pub put_of : HartView → ℕ → ℕ → HartView
put_of view rd value = record view { pc = next_pc_of view.pc; regs = set view.regs rd value }

-- the hart jumps, with the address of the next instruction in memory in a register
abbrev pub link_of : HartView → ℕ → ℕ → HartView
link_of view rd target = record view { pc = target; regs = set view.regs rd (next_pc_of view.pc) }

-- the hart's own reservation ends
abbrev pub release_of : HartView → HartView
release_of view = record view { reserved = None }

-- an action of a hart, where `byte` tells each byte of memory
abbrev pub perform : Action → HartView → (ℕ → ℕ) → Execution
perform (actions.Trap cause) view byte = Stops (Trapped cause view.pc)
perform (actions.Exit code) view byte = Stops (Exited code)
perform (actions.Put rd value) view byte = Goes (put_of view rd.number value) None None
perform (actions.JumpAndLink rd target) view byte = Goes (link_of view rd.number target) None None
perform (actions.Go target) view byte = Goes (record view { pc = target }) None None
perform (actions.Answer value) view byte = Goes (put_of view a0 value) None None
perform (actions.Append address len) view byte =
    Goes (put_of view a0 len) None (Some (record { address = address; len = len }))
perform (actions.Load width rd address) view byte =
    Goes (put_of view rd.number (extend_of width (loaded byte address (load_size_of width)))) None None
perform (actions.LoadReserved rd address) view byte =
    Goes (record (put_of view rd.number (loaded byte address 4)) { reserved = Some address }) None None
perform (actions.Store address len value) view byte =
    Goes (release_of (advance_of view)) (Some (record { address = address; len = len; value = value })) None
perform (actions.StoreConditional rd address value) view byte =
    Goes (release_of (put_of view rd.number 0)) (Some (record { address = address; len = 4; value = value })) None
perform (actions.Fail rd) view byte = Goes (release_of (put_of view rd.number 1)) None None
perform (actions.Amo op rd address source) view byte =
    let old = loaded byte address 4 in
    Goes (release_of (put_of view rd.number old))
    (Some (record { address = address; len = 4; value = amo_of op old source })) None

-- what a hart's next instruction does, given the word at its pc (none where there is no code), its view, where
-- memory lies, how many bytes the output has room for, and each byte of memory
unfoldable pub executed : Option ℕ → HartView → Span → ℕ → (ℕ → ℕ) → Execution
executed word view span room byte = perform (action_at word view span room) view byte

-- the instruction that a word means, where there is a word and it means one
abbrev pub insn_at : Option ℕ → Option Insn
insn_at None = None
insn_at (Some word) = decoded word

-- what it touches: nothing where there is no word or the word means no instruction
abbrev pub insn_touched : Option Insn → HartView → Span → ℕ → Access
insn_touched None view span room = Nothing
insn_touched (Some insn) view span room = access_of insn view.pc view.regs view.reserved span room

abbrev pub touched : Option ℕ → HartView → Span → ℕ → Access
touched word view span room = insn_touched (insn_at word) view span room

-- the parts of an execution: the hart's view after it, its store, and its piece of output
abbrev pub view_after : Execution → HartView → HartView
view_after (Stops status) view = record view { status = status }
view_after (Goes new store append) view = new

abbrev pub store_in : Execution → Option Store
store_in (Stops status) = None
store_in (Goes new store append) = store

abbrev pub append_in : Execution → Option Append
append_in (Stops status) = None
append_in (Goes new store append) = append

-- the bytes of memory that an action loads
abbrev pub loads : Action → Option Load
loads (actions.Load width rd address) = Some (record { address = address; len = load_size_of width })
loads (actions.LoadReserved rd address) = Some (record { address = address; len = 4 })
loads (actions.Amo op rd address source) = Some (record { address = address; len = 4 })
loads _ = None

-- the number that an action loads from memory, where it loads one
abbrev pub number_of : Action → (ℕ → ℕ) → Option ℕ
number_of action byte = option_map (λ load. loaded byte load.address load.len) (loads action)
