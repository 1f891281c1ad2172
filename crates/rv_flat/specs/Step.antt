-- one step of a hart on plain shared memory
use Rattle.std.specs.Prelude.{ℕ, ◌-◌, ◌++◌, List, map, Option, None, Some, slice_set}
use Rattle.elf_image.specs.Program.{code_word}
use Rattle.el_base.specs.Line.{line_number}
use Rattle.rv_alu.specs.declared.action.Action.{Action}
use Rattle.rv_alu.specs.declared.view.HartStatus.{HartStatus}
use Rattle.rv_alu.specs.declared.view.HartStatus.TheVariants.{Running, Exited, Trapped}
use Rattle.rv_alu.specs.declared.view.HartView.{HartView}
use Rattle.rv_alu.specs.Action.{action_at}
use Rattle.rv_alu.specs.Execution.{Append, Execution, Store, append_in, executed, store_in, view_after}
pub use Rattle.rv_alu.specs.Reservations.{unreserved}
use Rattle.rv_flat.specs.FlatState.{FlatState, room_of, span_of, status_of, view_of}
use Rattle.rv_flat.specs.Memory.{byte_in, piece_of, put_bytes}

-- a hart's view is another one
abbrev pub with_view : FlatState → ℕ → HartView → FlatState
with_view state hart view = record state { harts = slice_set state.harts hart view }

-- harts after another's store, if there is one
abbrev pub unreserved_by : Option Store → List HartView → List HartView
unreserved_by None harts = harts
unreserved_by (Some store) harts = map (unreserved (line_number store.address)) harts

-- bytes of memory from a base on after a store, if there is one
abbrev pub stored_by : Option Store → ℕ → List ℕ → List ℕ
stored_by None base bytes = bytes
stored_by (Some store) base bytes = put_bytes bytes (store.address - base) store.len store.value

-- the output after a piece of memory from a base on, if there is one
abbrev pub appended_by : Option Append → ℕ → List ℕ → List ℕ → List ℕ
appended_by None base bytes output = output
appended_by (Some append) base bytes output = output ++ piece_of bytes (append.address - base) append.len

-- the state after what a hart of this view did
abbrev pub applied : FlatState → ℕ → HartView → Execution → FlatState
applied state hart view execution =
    record state {
      harts = slice_set (unreserved_by (store_in execution) state.harts) hart (view_after execution view);
      bytes = stored_by (store_in execution) state.base state.bytes;
      output = appended_by (append_in execution) state.base state.bytes state.output;
    }

-- what a hart of this view does next, before it loads
abbrev pub action_of : FlatState → HartView → Action
action_of state view = action_at (code_word state.code view.pc) view (span_of state) (room_of state)

-- what a hart of this view does next
abbrev pub execution_of : FlatState → HartView → Execution
execution_of state view =
    executed (code_word state.code view.pc) view (span_of state) (room_of state) (byte_in state.base state.bytes)

-- the next instruction of a hart, where it runs
abbrev pub status_step : FlatState → ℕ → HartView → HartStatus → FlatState
status_step state hart view Running = applied state hart view (execution_of state view)
status_step state hart view (Exited code) = state
status_step state hart view (Trapped cause pc) = state

-- one step of a hart
unfoldable pub flat : FlatState → ℕ → FlatState
flat state hart = status_step state hart (view_of state hart) (status_of state hart)
