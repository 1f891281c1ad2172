-- how an instruction runs over a port
use Rattle.std.specs.Prelude.{ℕ, Bool, ◌≡◌, ◌%◌, if◌then◌else◌, Option, None, Some}
use Rattle.el_base.specs.Line.{line_number}
use Rattle.el_base.specs.LineAddr.{line_addr}
use Rattle.el_base.specs.declared.outcomes.Need.{Need}
use Rattle.el_base.specs.declared.outcomes.Need.TheVariants as needs
use Rattle.rv_alu.specs.Action.{load_size_of}
use Rattle.rv_alu.specs.Execution.{Execution, Store, Stops, Goes, store_in, view_after}
use Rattle.rv_alu.specs.Footprint.{IsSize, footprint}
use Rattle.rv_alu.specs.declared.action.Action.{Action}
use Rattle.rv_alu.specs.declared.action.Action.TheVariants as actions
use Rattle.rv_alu.specs.declared.footprint.Access.{Access}
use Rattle.rv_alu.specs.declared.footprint.Access.TheVariants.{Read, Write}
use Rattle.rv_alu.specs.declared.transfers.Load.{Load}
use Rattle.rv_alu.specs.declared.view.HartStatus.{HartStatus}
use Rattle.rv_alu.specs.declared.view.HartStatus.TheVariants.{Running}
use Rattle.rv_alu.specs.declared.view.HartView.{HartView}
use Rattle.core_step.specs.Port.{MayRead, MayWrite, stored}
use Rattle.core_step.specs.declared.ended.Ended.{Ended}
use Rattle.core_step.specs.declared.ended.Ended.TheVariants as ends
use Rattle.core_step.specs.declared.want.Want.{Want}

-- a line and a need, where it is not permitted
abbrev pub refused : (ℕ → Need → Bool) → ℕ → Need → Option Want
refused permits line need = if permits line need then None else Some (record { line = line_addr line; need = need })

-- what an access lacks: the line that it touches, where it is not permitted
abbrev pub lacking : (ℕ → Need → Bool) → Access → Option Want
lacking permits (Read address len) = refused permits (line_number address) needs.Read
lacking permits (Write address len) = refused permits (line_number address) needs.Write
lacking permits _ = None

-- how an instruction ends that runs
abbrev pub ended_by : Execution → Ended
ended_by (Stops status) = ends.Stops status
ended_by (Goes view store append) = ends.Ran

-- the same by its hart's status afterwards
abbrev pub ended_with : HartStatus → Ended
ended_with Running = ends.Ran
ended_with status = ends.Stops status

-- how an instruction ends: it needs what it lacks, and else it runs
abbrev pub ended_of : Option Want → Execution → Ended
ended_of (Some want) execution = ends.Needs want.line want.need
ended_of None execution = ended_by execution

-- its hart's view then, and what it has stored: nothing has changed where it needs a line
abbrev pub view_when : Ended → Execution → HartView → HartView
view_when (ends.Needs line need) execution view = view
view_when _ execution view = view_after execution view

abbrev pub store_when : Ended → Execution → Option Store
store_when (ends.Needs line need) execution = None
store_when _ execution = store_in execution

-- each byte after a store, if there is one
abbrev pub byte_after : Option Store → (ℕ → ℕ) → ℕ → ℕ
byte_after None byte address = byte address
byte_after (Some store) byte address = stored byte store.address store.len store.value address

-- a load and a store that a port carries out
pub record IsLoadable (permits : ℕ → Need → Bool) (load : Load) : Type 0 where
  pub size : IsSize load.len
  pub aligned : load.address % load.len ≡ 0
  pub permitted : MayRead permits (line_number load.address)

pub record IsStorable (permits : ℕ → Need → Bool) (store : Store) : Type 0 where
  pub size : IsSize store.len
  pub aligned : store.address % store.len ≡ 0
  pub permitted : MayWrite permits (line_number store.address)

-- what an action loads and stores has 1, 2 or 4 bytes, and its address is a multiple of as many
abbrev pub IsAligned : Action → Type 0
IsAligned (actions.Load width rd address) = address % load_size_of width ≡ 0
IsAligned (actions.LoadReserved rd address) = address % 4 ≡ 0
IsAligned (actions.Store address len value) = IsSize len × (address % len ≡ 0)
IsAligned (actions.StoreConditional rd address value) = address % 4 ≡ 0
IsAligned (actions.Amo op rd address source) = address % 4 ≡ 0
IsAligned _ = Unit {0}

-- an action that a port lets happen
pub record IsReady (permits : ℕ → Need → Bool) (action : Action) : Type 0 where
  pub aligned : IsAligned action
  pub permitted : lacking permits (footprint action) ≡ None
