-- an armed run leaves all but the view of its hart as it was
use Rattle.std.proofs.Common.{◌≡◌, ◌∙◌, ◌≤◌, ◌+◌, ℕ, zero, suc, false, List, refl, ap, sym, subst, arith}
use Rattle.residency.specs.Residency.{Way}
use Rattle.elf_image.specs.Program.{code_word}
use Rattle.el_model.specs.State.{Armed}
use Rattle.el_model.specs.Upcoming.{calls}
use Rattle.rv_alu.proofs.Laws.Executions.{executed-append}
use Rattle.rv_alu.specs.Footprint.{IsNoWrite}
use Rattle.rv_alu.specs.declared.footprint.Access.{Access}
use Rattle.rv_alu.specs.declared.footprint.Access.TheVariants.{Nothing, Read, Write, Trap, Exit}
use Rattle.rv_alu.specs.declared.view.HartStatus.TheVariants.{Running}
use Rattle.rv_alu.specs.declared.view.HartView.{HartView}
use Rattle.rv_flat.proofs.Laws.Shapes.{keeps_own_shape, keeps_twice}
use Rattle.rv_flat.proofs.Laws.StepLaws.{keeps_others, keeps_shape, running}
use Rattle.rv_flat.specs.FlatState.{FlatState, room_of, span_of, status_of, view_of}
use Rattle.rv_flat.specs.Laws.{next_insn, seen_after}
use Rattle.rv_flat.specs.Memory.{byte_in}
use Rattle.rv_flat.specs.Run.{alone}
use Rattle.rv_flat.specs.Step.{appended_by, flat}
use Rattle.run_laws.proofs.Laws.Alike.{alone_more, no_call}
use Rattle.run_laws.proofs.Laws.Reserving.{IsSilent, keeps_memory, silent_at}
use Rattle.run_laws.proofs.Laws.Shown.{running_footprint}
use Rattle.run_laws.specs.Laws.{ArmedRunsKeepAllButAView}
use Rattle.run_laws.specs.PrivateRun.{IsArmedRun, KeepsAllButAView, KeepsAllButViews}
use Rattle.el_base.proofs.Laws.Tests.{first_not}

pub same_but_views : (state : FlatState) → KeepsAllButViews state state
same_but_views state = record { shape = keeps_own_shape state; bytes = refl; output = refl }

pub but_views_twice : (one two three : FlatState) → KeepsAllButViews one two → KeepsAllButViews two three →
    KeepsAllButViews one three
but_views_twice one two three first second = record {
  shape = keeps_twice one two three first.shape second.shape;
  bytes = second.bytes ∙ first.bytes;
  output = second.output ∙ first.output;
}

pub same_but_a_view : (h : ℕ) (state : FlatState) → KeepsAllButAView h state state
same_but_a_view h state = record { rest = same_but_views state; others = λ g apart. refl }

but_a_view_twice : (h : ℕ) (one two three : FlatState) → KeepsAllButAView h one two → KeepsAllButAView h two three →
    KeepsAllButAView h one three
but_a_view_twice h one two three first second = record {
  rest = but_views_twice one two three first.rest second.rest;
  others = λ g apart. second.others g apart ∙ first.others g apart;
}

-- an instruction that writes nothing ends no reservation
unseen : (access : Access) (view : HartView) → IsNoWrite access → seen_after access view ≡ view
unseen (Write from len) view none = absurd none
unseen (Read from len) view none = refl
unseen Nothing view none = refl
unseen (Trap cause) view none = refl
unseen (Exit code) view none = refl

-- one that makes no call appends nothing
same_output : (state : FlatState) (h : ℕ) → status_of state h ≡ Running → calls (next_insn state h) ≡ false →
    (flat state h).output ≡ state.output
same_output state h runs none =
    let view = view_of state h in
    ap (λ new. new.output) (running state h runs)
    ∙ ap (λ append. appended_by append state.base state.bytes state.output)
    (executed-append (code_word state.code view.pc) view (span_of state) (room_of state)
    (byte_in state.base state.bytes)
    (no_call (next_insn state h) none))

step_keeps : (state : FlatState) (h : ℕ) → status_of state h ≡ Running → IsSilent state h →
    KeepsAllButAView h state (flat state h)
step_keeps state h runs silent = record {
  rest = record {
    shape = keeps_shape state h;
    bytes = keeps_memory state h runs silent.writes_none;
    output = same_output state h runs (first_not (calls (next_insn state h)) _ silent.goes_on);
  };
  others = λ g apart.
      keeps_others state h g apart ∙ ap (λ access. seen_after access (view_of state g)) (running_footprint state h runs)
      ∙ unseen _ (view_of state g) silent.writes_none;
}

module _ (committed : FlatState) (h : ℕ) (cache : List (List Way)) (armed : Armed)
    (run : IsArmedRun committed h cache armed) where
  pub armed_keeps : (n : ℕ) → n ≤ armed.count → KeepsAllButAView h committed (alone committed h n)
  armed_keeps zero within = same_but_a_view h committed
  armed_keeps (suc n) within =
      let next : suc n ≡ n + 1 = omega arith in
      subst (KeepsAllButAView h committed) (sym (ap (alone committed h) next ∙ alone_more committed h n))
      (but_a_view_twice h committed (alone committed h n) (flat (alone committed h n) h)
      (armed_keeps n (omega (arith, within)))
      (step_keeps (alone committed h n) h (run.running n (omega (arith, within)))
      (silent_at committed h cache armed run n (omega (arith, within)))))

pub armed_runs_keep_all_but_a_view : ArmedRunsKeepAllButAView
armed_runs_keep_all_but_a_view committed h cache armed run =
    armed_keeps committed h cache armed run armed.count (omega arith)
