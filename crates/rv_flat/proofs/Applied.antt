-- what an instruction does to a state, in the order in which code does it
use Rattle.std.proofs.Common.{◌≡◌, ℕ, List, Option, None, Some, ap, refl, ◌∙◌}
use Rattle.std.specs.Prelude.{OnSome, slice_set}
use Rattle.std.proofs.lemmas.List.{map-set}
use Rattle.el_base.specs.Line.{line_number}
use Rattle.rv_alu.proofs.Laws.Executions.{store_ends_reservation, unreserved-none}
use Rattle.rv_alu.specs.declared.action.Action.{Action}
use Rattle.rv_alu.specs.declared.view.HartView.{HartView}
use Rattle.rv_alu.specs.Execution.{Append, Execution, Store, append_in, executed, perform, store_in, view_after}
use Rattle.rv_flat.specs.FlatState.{FlatState, view_of}
use Rattle.rv_flat.specs.Memory.{byte_in}
use Rattle.rv_flat.specs.Step.{action_of, appended_by, applied, execution_of, stored_by, unreserved, unreserved_by}

-- a hart that has lost its reservation may be among those that a store reaches
unreserved_by-set : (store : Option Store) (harts : List HartView) (hart : ℕ) (view : HartView) →
    OnSome store (view.reserved ≡ None) →
    unreserved_by store (slice_set harts hart view) ≡ slice_set (unreserved_by store harts) hart view
unreserved_by-set None harts hart view ends = refl
unreserved_by-set (Some store) harts hart view ends =
    map-set (unreserved (line_number store.address)) harts hart view
    ∙ ap (slice_set (unreserved_by (Some store) harts) hart) (unreserved-none (line_number store.address) view ends)

-- a hart's view first, then the output and memory, by what it was found to do
pub applied_in_turn : (state : FlatState) (hart : ℕ) (action : Action) (new : HartView) (store : Option Store)
    (append : Option Append) → action ≡ action_of state (view_of state hart) →
    (let execution : Execution = perform action (view_of state hart) (byte_in state.base state.bytes) in
    (new ≡ view_after execution (view_of state hart)) × (store ≡ store_in execution) × (append ≡ append_in execution)) →
    record state {
      harts = unreserved_by store (slice_set state.harts hart new);
      bytes = stored_by store state.base state.bytes;
      output = appended_by append state.base state.bytes state.output;
    }
    ≡ applied state hart (view_of state hart) (execution_of state (view_of state hart))
unfolding executed
applied_in_turn state hart action new store append is done =
    let view : HartView = view_of state hart in
    let execution : Execution = perform action view (byte_in state.base state.bytes) in
    rw (← is, done.0, done.1, done.2)
    (ap (λ harts. record (applied state hart view execution) { harts = harts })
    (unreserved_by-set (store_in execution) state.harts hart (view_after execution view)
    (store_ends_reservation action view (byte_in state.base state.bytes))))
