-- only a store conditional depends on the reservation of its hart
use Rattle.std.proofs.Common.{◌≡◌, ◌≢◌, ◌<◌, ℕ, List, [], ◌∷◌, length, Option, None, Some, refl, arith, ap, sym, subst}
use Rattle.std.proofs.Common.{◌∙◌, inl, inr, ◌⊎◌}
use Rattle.std.specs.Prelude.{slice_index_or, slice_set}
use Rattle.std.proofs.lemmas.Bool.{cases_eq}
use Rattle.std.proofs.lemmas.List.{get_or-set_other, get_or-set_same, map-set, set-get_or, set-set, set_comm}
use Rattle.std.proofs.Math.ListN.{get_or-map}
use Rattle.elf_image.specs.Program.{code_word}
use Rattle.el_base.specs.Line.{line_number}
use Rattle.rv_alu.proofs.Laws.Executions.{IsSameButReservation, executed-reserved}
use Rattle.rv_alu.specs.declared.view.HartStatus.{HartStatus}
use Rattle.rv_alu.specs.declared.view.HartStatus.TheVariants.{Running, Exited, Trapped}
use Rattle.rv_alu.specs.declared.view.HartView.{HartView}
use Rattle.rv_alu.specs.Execution.{Append, Execution, Store, append_in, store_in, view_after}
use Rattle.rv_alu.specs.Footprint.{IsNoStoreConditional}
use Rattle.rv_flat.specs.FlatState.{FlatState, no_hart, room_of, span_of, status_of, view_of}
use Rattle.rv_flat.specs.Laws.{MakesNoStoreConditional, next_insn, with_reserved}
use Rattle.rv_flat.specs.Memory.{byte_in}
use Rattle.rv_flat.specs.Run.{run}
use Rattle.rv_flat.specs.Step.{appended_by, applied, execution_of, flat, status_step, stored_by, unreserved}
use Rattle.rv_flat.specs.Step.{unreserved_by, with_view}
use Rattle.rv_flat.proofs.Laws.StepLaws.{harts-run, keeps_shape, view-applied}

-- a view after a store, if there is one
abbrev pub seen_by : Option Store → HartView → HartView
seen_by None view = view
seen_by (Some store) view = unreserved (line_number store.address) view

unreserved_by-set : (store : Option Store) (harts : List HartView) (hart : ℕ) (view : HartView) →
    unreserved_by store (slice_set harts hart view) ≡ slice_set (unreserved_by store harts) hart (seen_by store view)
unreserved_by-set None harts hart view = refl
unreserved_by-set (Some store) harts hart view = map-set (unreserved (line_number store.address)) harts hart view

unreserved_by-get : (store : Option Store) (harts : List HartView) (hart : ℕ) →
    slice_index_or (unreserved_by store harts) hart no_hart ≡ seen_by store (slice_index_or harts hart no_hart)
unreserved_by-get None harts hart = refl
unreserved_by-get (Some store) harts hart = get_or-map (unreserved (line_number store.address)) harts hart no_hart

seen_by-reserved : (store : Option Store) (view : HartView) (reserved : Option ℕ) →
    let seen : HartView = seen_by store (record view { reserved = reserved }) in
    seen ≡ record (seen_by store view) { reserved = seen.reserved }
seen_by-reserved None view reserved = refl
seen_by-reserved (Some store) view reserved = refl

-- what a hart whose view was another one does itself
own_applied : (state : FlatState) (hart : ℕ) (view other : HartView) (left right : Execution) →
    IsSameButReservation left right other view → applied (with_view state hart other) hart other left
    ≡ with_view (applied state hart view right) hart (view_after left other)
own_applied state hart view other left right same =
    let new : HartView = view_after left other in
    let store : Option Store = store_in left in
    let After : List HartView → Option Store → Option Append → FlatState = λ harts store append. record state {
      harts = slice_set harts hart new;
      bytes = stored_by store state.base state.bytes;
      output = appended_by append state.base state.bytes state.output;
    } in
    ap (λ harts. After harts store (append_in left)) (unreserved_by-set store state.harts hart other)
    ∙ ap (λ harts. record (After harts store (append_in left)) { harts = harts })
    (set-set (unreserved_by store state.harts) hart (seen_by store other) new)
    ∙ ap (λ store. After (unreserved_by store state.harts) store (append_in left)) same.store
    ∙ ap (After (unreserved_by (store_in right) state.harts) (store_in right)) same.append
    ∙ ap (λ harts. record (applied state hart view right) { harts = harts })
    (sym (set-set (unreserved_by (store_in right) state.harts) hart (view_after right view) new))

-- what another hart does
other_applied : (state : FlatState) (hart other : ℕ) (view new : HartView) (execution : Execution) → other ≢ hart →
    applied (with_view state hart view) other new execution ≡ with_view (applied state other new execution) hart
    (seen_by (store_in execution) view)
other_applied state hart other view new execution apart =
    let store : Option Store = store_in execution in
    ap (λ harts. record (applied state other new execution) { harts = harts })
    (ap (λ harts. slice_set harts other (view_after execution new)) (unreserved_by-set store state.harts hart view)
    ∙ set_comm (unreserved_by store state.harts) hart other (seen_by store view) (view_after execution new)
    (λ same. apart (sym same)))

-- a state is the same as another but for a hart's reservation
abbrev pub IsButReserved : ℕ → FlatState → FlatState → Type 0
IsButReserved hart left right = (reserved : Option ℕ) × (left ≡ with_reserved right hart reserved)

-- it is so after a step of the hart itself, unless that is a store conditional
own_status : (state : FlatState) (hart : ℕ) (reserved : Option ℕ) (status : HartStatus) → hart < length state.harts →
    IsNoStoreConditional (next_insn state hart) →
    let other : HartView = record (view_of state hart) { reserved = reserved } in
    IsButReserved hart (status_step (with_view state hart other) hart other status)
    (status_step state hart (view_of state hart) status)
own_status state hart reserved Running there none =
    let view : HartView = view_of state hart in
    let other : HartView = record view { reserved = reserved } in
    let left : Execution = execution_of state other in
    let right : Execution = execution_of state view in
    let same : IsSameButReservation left right other view =
    executed-reserved (code_word state.code view.pc) view reserved (span_of state) (room_of state)
    (byte_in state.base state.bytes) none in (
      (view_after left other).reserved,
      own_applied state hart view other left right same
          ∙ ap (with_view (applied state hart view right) hart) same.seen
          ∙ ap (λ seen. with_view (applied state hart view right) hart
          (record seen { reserved = (view_after left other).reserved }))
          (sym (view-applied state hart view right there)),
    )
own_status state hart reserved (Exited code) there none = (reserved, refl)
own_status state hart reserved (Trapped cause pc) there none = (reserved, refl)

-- and after a step of another hart
other_status : (state : FlatState) (hart other : ℕ) (reserved : Option ℕ) (status : HartStatus) →
    hart < length state.harts → other ≢ hart →
    IsButReserved hart (status_step (with_reserved state hart reserved) other (view_of state other) status)
    (status_step state other (view_of state other) status)
other_status state hart other reserved Running there apart =
    let view : HartView = record (view_of state hart) { reserved = reserved } in
    let execution : Execution = execution_of state (view_of state other) in
    let store : Option Store = store_in execution in
    let after : FlatState = applied state other (view_of state other) execution in
    let seen : view_of after hart ≡ seen_by store (view_of state hart) =
    get_or-set_other (unreserved_by store state.harts) other hart (view_after execution (view_of state other)) no_hart
    (λ same. apart (sym same))
    ∙ unreserved_by-get store state.harts hart in (
      (seen_by store view).reserved,
      other_applied state hart other view (view_of state other) execution apart
          ∙ ap (with_view after hart) (seen_by-reserved store (view_of state hart) reserved)
          ∙ ap (λ view. with_view after hart (record view {
            reserved =
                (seen_by store (record (view_of state hart) { reserved = reserved })).reserved;
          })) (sym seen),
    )
other_status state hart other reserved (Exited code) there apart = (reserved, refl)
other_status state hart other reserved (Trapped cause pc) there apart = (reserved, refl)

step_by : (state : FlatState) (hart next : ℕ) (reserved : Option ℕ) → hart < length state.harts →
    (next ≡ hart → IsNoStoreConditional (next_insn state hart)) →
    (next ≡ hart) ⊎ (next ≡ hart → ⊥) →
    IsButReserved hart (flat (with_reserved state hart reserved) next) (flat state next)
unfolding flat
step_by state hart next reserved there none (inl same) =
    let other : HartView = record (view_of state hart) { reserved = reserved } in
    let Step : HartView → Type 0 =
    λ view. IsButReserved hart (status_step (with_view state hart other) hart view view.status) (flat state hart) in
    rw same
    (subst Step (sym (get_or-set_same state.harts hart other no_hart there))
    (own_status state hart reserved (status_of state hart) there (none same)))
step_by state hart next reserved there none (inr apart) =
    let Step : HartView → Type 0 =
    λ view. IsButReserved hart (status_step (with_reserved state hart reserved) next view view.status)
    (flat state next) in
    subst Step
    (sym (get_or-set_other state.harts hart next (record (view_of state hart) { reserved = reserved }) no_hart apart))
    (other_status state hart next reserved (status_of state next) there apart)

-- a run depends on a hart's reservation in what is left of it, where the hart makes no store conditional
run_but_reserved : (state : FlatState) (hart : ℕ) (reserved : Option ℕ) (harts : List ℕ) → hart < length state.harts →
    MakesNoStoreConditional state hart harts →
    IsButReserved hart (run (with_reserved state hart reserved) harts) (run state harts)
run_but_reserved state hart reserved [] there none = (reserved, refl)
run_but_reserved state hart reserved (next ∷ harts) there none =
    let step : IsButReserved hart (flat (with_reserved state hart reserved) next) (flat state next) =
    step_by state hart next reserved there none.0 (cases_eq next hart) in
    let goes : IsButReserved hart (run (with_reserved (flat state next) hart step.0) harts)
    (run (flat state next) harts) =
    run_but_reserved (flat state next) hart step.0 harts
    (omega (arith, there, (keeps_shape state next).harts)) none.1 in
    (goes.0, ap (λ state. run state harts) step.1 ∙ goes.1)

-- so two runs with the same left of it come to the same state
pub run_forgets : (state : FlatState) (hart : ℕ) (reserved : Option ℕ) (harts : List ℕ) → hart < length state.harts →
    MakesNoStoreConditional state hart harts →
    (view_of (run (with_reserved state hart reserved) harts) hart).reserved
    ≡ (view_of (run state harts) hart).reserved → run (with_reserved state hart reserved) harts ≡ run state harts
run_forgets state hart reserved harts there none left =
    let after : FlatState = run state harts in
    let goes : IsButReserved hart (run (with_reserved state hart reserved) harts) after =
    run_but_reserved state hart reserved harts there none in
    let within : hart < length after.harts = omega (arith, there, harts-run state harts) in
    let own : goes.0 ≡ (view_of after hart).reserved =
    sym (ap (λ view. view.reserved) (ap (λ state. view_of state hart) goes.1
    ∙ get_or-set_same after.harts hart (record (view_of after hart) { reserved = goes.0 }) no_hart within)) ∙ left in
    goes.1 ∙ ap (with_reserved after hart) own
    ∙ ap (λ harts. record after { harts = harts }) (set-get_or after.harts hart no_hart)
