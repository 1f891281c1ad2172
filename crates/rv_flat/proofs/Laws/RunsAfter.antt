-- which harts run after a step, and that bytes stay bytes
use Rattle.std.proofs.Common.{◌≡◌, ◌<◌, ℕ, ◌-◌, List, length, Option, None, Some, refl, ap, sym, ◌∙◌, inl, inr, ◌⊎◌, []}
use Rattle.std.proofs.Common.{◌∷◌, ◌≢◌}
use Rattle.std.proofs.lemmas.Bool.{cases_eq}
use Rattle.std.proofs.Math.ListN.{get_or-eq_default}
use Rattle.std.proofs.Math.Nat.{lt_of_not-le}
use Rattle.rv_alu.specs.declared.footprint.Access.{Access}
use Rattle.rv_alu.specs.declared.footprint.Access.TheVariants.{Nothing, Read, Write, Trap, Exit}
use Rattle.rv_alu.specs.declared.view.HartStatus.{HartStatus}
use Rattle.rv_alu.specs.declared.view.HartStatus.TheVariants.{Running, Exited, Trapped}
use Rattle.rv_alu.specs.declared.view.HartView.{HartView}
use Rattle.rv_alu.specs.Execution.{Store, store_in}
use Rattle.rv_flat.specs.FlatState.{FlatState, no_hart, status_of, view_of}
use Rattle.rv_flat.specs.Laws.{footprint_of, seen_after}
use Rattle.rv_flat.specs.Memory.{AreBytes}
use Rattle.rv_flat.specs.Step.{execution_of, flat, status_step, stored_by}
use Rattle.rv_flat.proofs.Laws.PutBytes.{put_bytes-bytes}
use Rattle.rv_flat.proofs.Laws.StepLaws.{by_step, keeps_others}
use Rattle.rv_flat.specs.Run.{run}

-- a hart that runs exists
pub runs-exists : (state : FlatState) (hart : ℕ) → status_of state hart ≡ Running → hart < length state.harts
runs-exists state hart runs =
    lt_of_not-le (λ past.
    let none : Exited 0 ≡ Running =
    ap (λ view. view.status) (sym (get_or-eq_default state.harts no_hart past)) ∙ runs in
    cc)

-- what does not run has stopped
pub running_status : (status : HartStatus) → (status ≢ Running → ⊥) → status ≡ Running
running_status Running never = refl
running_status (Exited code) never = absurd (never (λ same. absurd (cc)))
running_status (Trapped cause pc) never = absurd (never (λ same. absurd (cc)))

pub seen_after-status : (access : Access) (view : HartView) → (seen_after access view).status ≡ view.status
seen_after-status (Write from len) view = refl
seen_after-status (Read from len) view = refl
seen_after-status Nothing view = refl
seen_after-status (Trap cause) view = refl
seen_after-status (Exit code) view = refl

own_before : (state : FlatState) (hart : ℕ) (view : HartView) (status : HartStatus) → view.status ≡ status →
    view_of state hart ≡ view → status_of (status_step state hart view status) hart ≡ Running → status ≡ Running
own_before state hart view Running is seen runs = refl
own_before state hart view (Exited code) is seen runs = sym is ∙ ap (λ view. view.status) (sym seen) ∙ runs
own_before state hart view (Trapped cause pc) is seen runs = sym is ∙ ap (λ view. view.status) (sym seen) ∙ runs

before_by : (state : FlatState) (hart other : ℕ) → status_of (flat state hart) other ≡ Running →
    (other ≡ hart) ⊎ (other ≡ hart → ⊥) → status_of state other ≡ Running
unfolding flat
before_by state hart other runs (inl same) =
    rw same (own_before state hart (view_of state hart) (status_of state hart) refl refl (rw same at runs))
before_by state hart other runs (inr apart) =
    sym (seen_after-status (footprint_of state hart) (view_of state other))
    ∙ ap (λ view. view.status) (sym (keeps_others state hart other apart)) ∙ runs

-- a hart that runs after a step ran before it
pub runs-before : (state : FlatState) (hart other : ℕ) → status_of (flat state hart) other ≡ Running →
    status_of state other ≡ Running
runs-before state hart other runs = before_by state hart other runs (cases_eq other hart)

-- a step leaves bytes
stored_by-bytes : (store : Option Store) (base : ℕ) (bytes : List ℕ) → AreBytes bytes →
    AreBytes (stored_by store base bytes)
stored_by-bytes None base bytes h = h
stored_by-bytes (Some store) base bytes h = put_bytes-bytes bytes (store.address - base) store.len store.value h

pub keeps_bytes : (state : FlatState) (hart : ℕ) → AreBytes state.bytes → AreBytes (flat state hart).bytes
keeps_bytes state hart h =
    by_step (λ access new. AreBytes new.bytes) state hart h
    (stored_by-bytes (store_in (execution_of state (view_of state hart))) state.base state.bytes h)

-- and so does a run
pub run_bytes : (state : FlatState) (harts : List ℕ) → AreBytes state.bytes → AreBytes (run state harts).bytes
run_bytes state [] bytes = bytes
run_bytes state (h ∷ harts) bytes = run_bytes (flat state h) harts (keeps_bytes state h bytes)
