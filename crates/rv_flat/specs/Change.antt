-- what a step overwrites, so that it can be undone
use Rattle.std.specs.Prelude.{◌≡◌, ◌<◌, ℕ, ◌-◌, ◌++◌, List, length, Option, None, Some, if◌then◌else◌, is_some}
use Rattle.std.specs.Prelude.{replicate, slice_index}
use Rattle.std.specs.Option.{unwrap_or}
use Rattle.el_base.specs.Harts.{has_hart}
use Rattle.rv_alu.specs.declared.action.Action.{Action}
use Rattle.rv_alu.specs.declared.action.Action.TheVariants as actions
use Rattle.rv_alu.specs.declared.footprint.Access.{Access}
use Rattle.rv_alu.specs.declared.footprint.Access.TheVariants.{Nothing, Read, Write, Trap, Exit}
use Rattle.rv_alu.specs.declared.view.HartStatus.{HartStatus}
use Rattle.rv_alu.specs.declared.view.HartStatus.TheVariants.{Running, Exited, Trapped}
use Rattle.rv_alu.specs.declared.view.HartView.{HartView}
use Rattle.rv_alu.specs.Regs.{a0, get}
use Rattle.rv_flat.specs.declared.change.Change.{Change}
use Rattle.rv_flat.specs.FlatState.{FlatState, status_of, view_of}
use Rattle.rv_flat.specs.Laws.{footprint_of}
use Rattle.rv_flat.specs.Memory.{piece_of}
use Rattle.rv_flat.specs.Step.{action_of, flat}

-- the register that an action writes: rd, x10 for a call, and register 0 where it writes none
abbrev pub written_register : Action → ℕ
written_register (actions.Put rd value) = rd.number
written_register (actions.JumpAndLink rd target) = rd.number
written_register (actions.Answer value) = a0
written_register (actions.Append address len) = a0
written_register (actions.Load width rd address) = rd.number
written_register (actions.LoadReserved rd address) = rd.number
written_register (actions.StoreConditional rd address value) = rd.number
written_register (actions.Fail rd) = rd.number
written_register (actions.Amo op rd address source) = rd.number
written_register (actions.Trap cause) = 0
written_register (actions.Exit code) = 0
written_register (actions.Go target) = 0
written_register (actions.Store address len value) = 0

-- the register that a hart of this status writes next: one that has stopped writes none
abbrev pub register_in : FlatState → HartView → HartStatus → ℕ
register_in state view Running = written_register (action_of state view)
register_in state view (Exited code) = 0
register_in state view (Trapped cause pc) = 0

-- the register that a hart's next step writes
abbrev pub register_of : FlatState → ℕ → ℕ
register_of state hart = register_in state (view_of state hart) (status_of state hart)

-- where an access writes, and how many bytes: 0 where it writes nothing
abbrev pub written_from : Access → ℕ
written_from (Write from len) = from
written_from (Read from len) = 0
written_from Nothing = 0
written_from (Trap cause) = 0
written_from (Exit code) = 0

abbrev pub written_len : Access → ℕ
written_len (Write from len) = len
written_len (Read from len) = 0
written_len Nothing = 0
written_len (Trap cause) = 0
written_len (Exit code) = 0

-- the bytes of memory from an address on, as four bytes: 0 stands behind them
abbrev pub four_bytes : FlatState → ℕ → ℕ → List ℕ
four_bytes state address len = piece_of state.bytes (address - state.base) len ++ replicate (4 - len) 0

-- a change holds what stands in a state where a hart's step writes this register and makes this access: the
-- hart's pc, status and register, the bytes, all reservations and the length of the output
pub record Holds (state : FlatState) (hart written : ℕ) (access : Access) (change : Change) : Type 0 where
  pub number : change.hart.number ≡ hart
  pub pc : change.pc ≡ (view_of state hart).pc
  pub status : change.status ≡ status_of state hart
  pub reg : change.reg.number ≡ written
  pub value : change.value ≡ get (view_of state hart).regs written
  pub address : change.address ≡ written_from access
  pub len : change.len ≡ written_len access
  pub bytes : change.bytes ≡ four_bytes state (written_from access) (written_len access)
  pub holders : (other : ℕ) → has_hart change.holders other ≡ is_some (view_of state other).reserved
  pub words : (other : ℕ) → slice_index change.words other ≡ unwrap_or (view_of state other).reserved 0
  pub output : change.output ≡ length state.output

-- a change is that of a hart's next step: it holds what the step overwrites
abbrev pub IsChangeOf : FlatState → ℕ → Change → Type 0
IsChangeOf state hart change = Holds state hart (register_of state hart) (footprint_of state hart) change

-- a step of a hart from a state on left this change and this state
pub record IsLeftBy (before : FlatState) (change : Change) (after : FlatState) : Type 0 where
  pub exists : change.hart.number < length before.harts
  pub noted : IsChangeOf before change.hart.number change
  pub stepped : after ≡ flat before change.hart.number

-- a hart's reservation as a change holds it
abbrev pub reserved_in : Change → ℕ → Option ℕ
reserved_in change hart = if has_hart change.holders hart then Some (slice_index change.words hart) else None
