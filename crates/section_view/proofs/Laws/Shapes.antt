-- what a private run leaves of the output, and what comes next behind it
use Rattle.std.proofs.Common.{◌≡◌, ◌≤◌, ◌<◌, ◌+◌, ◌-◌, ◌∙◌, ◌⊎◌, ℕ, zero, suc, false, List, length}
use Rattle.std.proofs.Common.{arith, refl, ap, sym, subst}
use Rattle.std.proofs.Common.{inl, inr}
use Rattle.std.proofs.lemmas.Bool.{cases_lt}
use Rattle.residency.specs.Residency.{Way}
use Rattle.elf_image.specs.Program.{code_word}
use Rattle.el_model.specs.State.{Section}
use Rattle.el_model.specs.Upcoming.{Swap, calls, calls_or_stops, next_execution, stops}
use Rattle.rv_alu.proofs.Laws.Executions.{executed-append}
use Rattle.rv_alu.specs.Action.{action_at}
use Rattle.rv_alu.specs.Execution.{insn_at, touched}
use Rattle.rv_alu.specs.declared.view.HartStatus.TheVariants.{Running}
use Rattle.rv_alu.specs.declared.view.HartView.{HartView}
use Rattle.rv_flat.proofs.Laws.Shapes.{keeps_alone, span_kept}
use Rattle.rv_flat.proofs.Laws.StepLaws.{running}
use Rattle.rv_flat.specs.FlatState.{FlatState, output_limit, room_of, span_of, status_of, view_of}
use Rattle.rv_flat.specs.Laws.{KeepsShape, next_insn, touched_by}
use Rattle.rv_flat.specs.Run.{alone}
use Rattle.rv_flat.specs.Step.{appended_by, flat}
use Rattle.run_laws.proofs.Laws.Alike.{no_call}
use Rattle.run_laws.proofs.Laws.Alike.{alone_more}
use Rattle.run_laws.proofs.Laws.ButAView.{armed_runs_keep_all_but_a_view}
use Rattle.run_laws.proofs.Laws.Reserving.{acquires_at, silent_at}
use Rattle.run_laws.specs.PrivateRun.{IsAcquire, IsCoveredRun}
use Rattle.section_view.specs.ArmedLaws.{ArmedSectionsComeTo}
use Rattle.section_view.specs.Laws.{ComesTo, SectionsComeTo}
use Rattle.el_base.proofs.Laws.Tests.{first_not}

-- an instruction that makes no call leaves the output
pub quiet_step : (state : FlatState) (h : ℕ) → status_of state h ≡ Running → calls_or_stops state h ≡ false →
    (flat state h).output ≡ state.output
quiet_step state h runs goes_on =
    let view = view_of state h in
    let word = code_word state.code view.pc in
    let none =
    no_call (next_insn state h) (first_not (calls (next_insn state h)) (stops (next_execution state h)) goes_on) in
    ap (λ new. new.output) (running state h runs)
    ∙ ap (λ append. appended_by append state.base state.bytes state.output)
    (executed-append word view (span_of state) (room_of state) _ none)

-- each instruction before an acquire goes on
before_goes_on : (committed : FlatState) (h : ℕ) (cache : List (List Way)) (before : ℕ) (swap : Swap) →
    IsAcquire committed h cache before swap → (n : ℕ) → n < before → calls_or_stops (alone committed h n) h ≡ false
before_goes_on committed h cache zero swap is n less = absurd (omega (arith, less))
before_goes_on committed h cache (suc before) swap (run, is) n less =
    (silent_at committed h cache (record { count = suc before; word = swap.word }) run n less).goes_on

module _ (committed : FlatState) (h : ℕ) (cache : List (List Way)) (section : Section)
    (run : IsCoveredRun committed h cache section) where
  -- so does each of a covered run
  pub goes_on_at : (n : ℕ) → n < section.count → calls_or_stops (alone committed h n) h ≡ false
  goes_on_at n less = by (cases_lt n run.before)
    where
      later : (run.before < n) ⊎ (n ≤ run.before) → run.before ≤ n → calls_or_stops (alone committed h n) h ≡ false
      later (inl past) from = (run.inside n past less).goes_on
      later (inr within) from =
          let same : run.before ≡ n = omega (arith, from, within) in
          subst (λ n. calls_or_stops (alone committed h n) h ≡ false) same
          (acquires_at committed h cache run.before
          (record { word = section.word; old = section.old; new = section.new }) run.acquire).stores.goes_on

      by : (n < run.before) ⊎ (run.before ≤ n) → calls_or_stops (alone committed h n) h ≡ false
      by (inl before) =
          before_goes_on committed h cache run.before
          (record { word = section.word; old = section.old; new = section.new }) run.acquire n before
      by (inr from) = later (cases_lt run.before n) from

  output_at : (n : ℕ) → n ≤ section.count → (alone committed h n).output ≡ committed.output
  output_at zero within = refl
  output_at (suc n) within =
      let next : n + 1 ≡ suc n = omega arith in
      subst (λ n. (alone committed h n).output ≡ committed.output) next
      (ap (λ new. new.output) (alone_more committed h n)
      ∙ quiet_step (alone committed h n) h (run.running n (omega arith)) (goes_on_at n (omega arith))
      ∙ output_at n (omega arith))

  pub output_shown : (alone committed h section.count).output ≡ committed.output
  output_shown = output_at section.count (omega arith)

-- the room of the output is the same where the output is
pub room_shape : (old new : FlatState) → new.output ≡ old.output → room_of new ≡ room_of old
room_shape old new same = ap (λ output. output_limit - length output) same

-- what comes next is what a view comes to in what is committed, where memory's shape and the output are as they were
pub comes_alike : (committed shown : FlatState) (h : ℕ) (view : HartView) → view ≡ view_of shown h →
    KeepsShape committed shown → shown.output ≡ committed.output → ComesTo committed shown h view
comes_alike committed shown h view is same output = record {
  insn =
      ap (λ view. insn_at (code_word shown.code view.pc)) (sym is)
      ∙ ap (λ code. insn_at (code_word code view.pc)) same.code;
  action =
      ap (λ code. action_at (code_word code view.pc) view (span_of shown) (room_of shown)) same.code
      ∙ ap (λ span. action_at (code_word committed.code view.pc) view span (room_of shown))
      (span_kept committed shown same)
      ∙ ap (action_at (code_word committed.code view.pc) view (span_of committed)) (room_shape committed shown output);
  access =
      ap (touched_by shown) (sym is)
      ∙ ap (λ code. touched (code_word code view.pc) view (span_of shown) (room_of shown)) same.code
      ∙ ap (λ span. touched (code_word committed.code view.pc) view span (room_of shown))
      (span_kept committed shown same)
      ∙ ap (touched (code_word committed.code view.pc) view (span_of committed)) (room_shape committed shown output);
}

pub comes_to : SectionsComeTo
comes_to committed h cache section view hold run keeps =
    comes_alike committed (alone committed h section.count) h view keeps.view (keeps_alone committed h section.count)
    (output_shown committed h cache section run)

pub armed_comes_to : ArmedSectionsComeTo
armed_comes_to committed h cache armed old view run keeps =
    comes_alike committed (alone committed h armed.count) h view keeps.view (keeps_alone committed h armed.count)
    (armed_runs_keep_all_but_a_view committed h cache armed run).rest.output
