-- A run of a program reaches states whose trapped harts stand at their traps, and whose output is within its limit.
use Rattle.std.proofs.Common.{◌≡◌, ◌≢◌, ℕ, ◌-◌, ◌≤◌, ◌<◌, List, [], ◌∷◌, length, drop, Option, Some, None, refl, arith}
use Rattle.std.proofs.Common.{inl, inr, ◌⊎◌}
use Rattle.std.specs.Prelude.{IfSome}
use Rattle.std.proofs.lemmas.Bool.{cases_eq}
use Rattle.std.proofs.lemmas.List.{length-append, length-take}
use Rattle.std.proofs.lemmas.List.FromFn.{get_or-map-range_with_len, length-map-range_with_len}
use Rattle.elf_image.specs.Program.{Program, code_word}
use Rattle.rv_alu.specs.Action.{action_at, action_of, insn_action_of}
use Rattle.rv_alu.specs.Execution.{Append, append_in, executed, perform, view_after}
use Rattle.rv_alu.specs.Footprint.{IsInPlace}
use Rattle.rv_alu.proofs.Laws.Footprints.{fits}
use Rattle.rv_alu.specs.declared.action.Action.{Action}
use Rattle.rv_alu.specs.declared.action.Action.TheVariants as actions
use Rattle.rv_alu.specs.declared.footprint.Access.{Access}
use Rattle.rv_alu.specs.declared.footprint.Access.TheVariants.{Nothing, Read, Write, Trap, Exit}
use Rattle.rv_alu.specs.declared.span.Span.{Span}
use Rattle.rv_alu.specs.declared.view.HartStatus.{HartStatus}
use Rattle.rv_alu.specs.declared.view.HartStatus.TheVariants.{Running, Exited, Trapped}
use Rattle.rv_alu.specs.declared.view.HartView.{HartView}
use Rattle.rv_word.specs.Decoding.{decoded}
use Rattle.rv_word.specs.declared.insn.Insn.{Insn}
use Rattle.rv_flat.specs.FlatState.{FlatState, first_view, no_hart, output_limit, room_of, span_of, start, status_of}
use Rattle.rv_flat.specs.FlatState.{view_of}
use Rattle.rv_flat.specs.Laws.{footprint_of, seen_after}
use Rattle.rv_flat.specs.Memory.{byte_in, piece_of}
use Rattle.rv_flat.specs.Run.{run}
use Rattle.rv_flat.specs.Step.{appended_by, execution_of, flat}
use Rattle.rv_flat.proofs.Laws.StepLaws.{keeps_others, keeps_shape, own_view, running, still}
use Rattle.run_check.specs.Certified.{IsStateOf, StandsAtTrap}
use Rattle.run_check.proofs.Runs.{reached_base, reached_harts, reached_size}

-- ---- traps

abbrev IsAtTrap : HartView → Type 0
IsAtTrap view = StandsAtTrap view.pc view.status

performed : (action : Action) (view : HartView) (byte : ℕ → ℕ) → view.status ≡ Running →
    IsAtTrap (view_after (perform action view byte) view)
performed (actions.Trap cause) view byte runs = refl
performed (actions.Exit code) view byte runs = tt
performed (actions.Put rd value) view byte runs = rw runs tt
performed (actions.JumpAndLink rd target) view byte runs = rw runs tt
performed (actions.Go target) view byte runs = rw runs tt
performed (actions.Answer value) view byte runs = rw runs tt
performed (actions.Append address len) view byte runs = rw runs tt
performed (actions.Load width rd address) view byte runs = rw runs tt
performed (actions.LoadReserved rd address) view byte runs = rw runs tt
performed (actions.Store address len value) view byte runs = rw runs tt
performed (actions.StoreConditional rd address value) view byte runs = rw runs tt
performed (actions.Fail rd) view byte runs = rw runs tt
performed (actions.Amo op rd address source) view byte runs = rw runs tt

executed_at_trap : (word : Option ℕ) (view : HartView) (span : Span) (room : ℕ) (byte : ℕ → ℕ) → view.status ≡ Running →
    IsAtTrap (view_after (executed word view span room byte) view)
unfolding executed
executed_at_trap word view span room byte runs = performed (action_at word view span room) view byte runs

seen_at_trap : (access : Access) (view : HartView) → IsAtTrap view → IsAtTrap (seen_after access view)
seen_at_trap (Write from len) view at = at
seen_at_trap (Read from len) view at = at
seen_at_trap Nothing view at = at
seen_at_trap (Trap cause) view at = at
seen_at_trap (Exit code) view at = at

abbrev AreAtTraps : FlatState → Type 0
AreAtTraps state = (hart : ℕ) → hart < length state.harts → IsAtTrap (view_of state hart)

-- whether a hart runs
runs_or_not : (status : HartStatus) → (status ≡ Running) ⊎ (status ≢ Running)
runs_or_not Running = inl refl
runs_or_not (Exited code) = inr (λ e. absurd cc)
runs_or_not (Trapped cause pc) = inr (λ e. absurd cc)

step_at_traps : (state : FlatState) (hart : ℕ) → AreAtTraps state → AreAtTraps (flat state hart)
step_at_traps state hart at other within =
    let shape = keeps_shape state hart in
    let there : other < length state.harts = omega (arith, shape.harts) in
    elim (runs_or_not (status_of state hart)) [
      | inl runs ↦
          elim (cases_eq other hart) [
            | inl same ↦
                let inside : hart < length state.harts = omega arith in
                rw (same, own_view state hart inside runs)
                (executed_at_trap (code_word state.code (view_of state hart).pc) (view_of state hart) (span_of state)
                (room_of state)
                (byte_in state.base state.bytes) runs)
            | inr apart ↦
                rw (keeps_others state hart other apart) (seen_at_trap (footprint_of state hart) (view_of state other)
                (at other there))
          ]
      | inr stopped ↦ rw (still state hart stopped) (at other there)
    ]

start_at_traps : (program : Program) → AreAtTraps (start program)
unfolding start first_view
start_at_traps program hart within =
    let many = length-map-range_with_len (first_view program) 0 program.harts in
    rw (get_or-map-range_with_len (first_view program) 0 program.harts hart hart no_hart (omega arith) (omega arith)) tt

run_at_traps : (state : FlatState) (harts : List ℕ) → AreAtTraps state → AreAtTraps (run state harts)
run_at_traps state [] at = at
run_at_traps state (hart ∷ harts) at = run_at_traps (flat state hart) harts (step_at_traps state hart at)

-- ---- the output

append_room : (span : Span) (room : ℕ) (action : Action) (view : HartView) (byte : ℕ → ℕ) → IsInPlace span room action →
    IfSome (append_in (perform action view byte)) (λ append. append.len ≤ room)
append_room span room (actions.Append address len) view byte h = h.1
append_room span room _ view byte h = tt

insn_room : (insn : Option Insn) (view : HartView) (span : Span) (room : ℕ) (byte : ℕ → ℕ) →
    IfSome (append_in (perform (insn_action_of insn view span room) view byte)) (λ append. append.len ≤ room)
insn_room None view span room byte = tt
insn_room (Some insn) view span room byte =
    append_room span room (action_of insn view.pc view.regs view.reserved span room) view byte
    (fits insn view.pc view.regs view.reserved span room).in_place

executed_room : (word : Option ℕ) (view : HartView) (span : Span) (room : ℕ) (byte : ℕ → ℕ) →
    IfSome (append_in (executed word view span room byte)) (λ append. append.len ≤ room)
unfolding executed
executed_room None view span room byte = tt
executed_room (Some word) view span room byte = insn_room (decoded word) view span room byte

appended_fits : (append : Option Append) (base limit : ℕ) (bytes output : List ℕ) →
    IfSome append (λ append. append.len ≤ limit - length output) → length output ≤ limit →
    length (appended_by append base bytes output) ≤ limit
appended_fits None base limit bytes output room few = few
appended_fits (Some append) base limit bytes output room few =
    omega (
      arith,
      room,
      length-append output (piece_of bytes (append.address - base) append.len),
      length-take append.len (drop (append.address - base) bytes),
    )

step_output : (state : FlatState) (hart : ℕ) → length state.output ≤ output_limit →
    length (flat state hart).output ≤ output_limit
step_output state hart few =
    elim (runs_or_not (status_of state hart)) [
      | inl runs ↦
          rw (running state hart runs)
          (appended_fits (append_in (execution_of state (view_of state hart))) state.base output_limit state.bytes
          state.output
          (executed_room (code_word state.code (view_of state hart).pc) (view_of state hart) (span_of state)
          (room_of state) (byte_in state.base state.bytes))
          few)
      | inr stopped ↦ rw (still state hart stopped) few
    ]

run_output : (state : FlatState) (harts : List ℕ) → length state.output ≤ output_limit →
    length (run state harts).output ≤ output_limit
run_output state [] few = few
run_output state (hart ∷ harts) few = run_output (flat state hart) harts (step_output state hart few)

start_output : (program : Program) → length (start program).output ≤ output_limit
unfolding start
start_output program = omega arith

pub reached_is_state : (program : Program) (state : FlatState) (harts : List ℕ) → state ≡ run (start program) harts →
    IsStateOf program state
reached_is_state program state harts ran =
    rw ran
    (record {
      base = reached_base program harts;
      size = reached_size program harts;
      one_view_each = reached_harts program harts;
      output = run_output (start program) harts (start_output program);
      traps = run_at_traps (start program) harts (start_at_traps program);
    })
