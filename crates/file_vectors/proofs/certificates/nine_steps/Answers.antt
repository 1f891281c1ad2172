use Rattle.std.proofs.Common.{[], ◌∷◌, ◌++◌, ◌<◌, length, ap, subst, sym, ◌∙◌, arith}
use Rattle.std.proofs.lemmas.List.Elements.{All-append, All-nil, All-replicate}
use Rattle.el_base.specs.declared.entries.Entry.{Entry}
use Rattle.el_base.specs.declared.events.Kind.TheVariants.{Step}
use Rattle.el_base.specs.declared.hart_id.HartId.{HartId}
use Rattle.el_base.specs.declared.outcomes.Outcome.TheVariants.{Committed}
use Rattle.elf_image.specs.Program.{Program}
use Rattle.rv_flat.specs.FlatState.{FlatState}
use Rattle.rv_flat.specs.Run.{run}
use Rattle.rv_flat.proofs.Laws.StepLaws.{start_harts}
use Rattle.std.specs.Prelude.{replicate}
use Rattle.run_check.specs.Certified.{IsHistoryOf}
use Rattle.run_check.proofs.Laws.ReachedStates.{reached_is_state}
use Rattle.file_vectors.proofs.certificates.nine_steps.Goals as goal

abbrev committed : HartId → Entry
committed hart = record { event = record { kind = Step; hart = hart }; outcome = Committed 9 }

one_entry : (program : Program) (hart : HartId) → hart.number < program.harts →
    IsHistoryOf program (committed hart ∷ [])
one_entry program hart low = record {
  harts =
      All-append (λ hart. hart < program.harts) (replicate 9 hart.number) []
      (All-replicate (λ hart. hart < program.harts) 9 hart.number low) (All-nil (λ hart. hart < program.harts));
  few = omega arith;
}

pub run_stretch-requires : goal.run_stretch-requires
run_stretch-requires c =
    omega (
      arith,
      ap (λ (s : FlatState). length s.harts) c.in_ok-flat.ensures,
      start_harts c.args.image.now,
      c.harts.ensures.valid.some_hart,
    )

pub returns-clause-history : goal.returns-clause-history
returns-clause-history c =
    let entries =
    ap (λ h. h.entries) c.push.ensures
    ∙ ap (λ h. h.entries ++ c.entry.result ∷ []) c.in_ok-history.ensures
    ∙ ap (λ e. e ∷ []) c.entry.ensures
    in
    subst (IsHistoryOf c.args.image.now) (sym entries)
    (one_entry c.args.image.now _ (omega (arith, c.harts.ensures.valid.some_hart)))

pub returns-clause-state : goal.returns-clause-state
returns-clause-state c =
    reached_is_state c.args.image.now c.run_stretch.new.flat (replicate 9 0)
    (c.run_stretch.ensures.ran ∙ ap (λ s. run s (replicate 9 0)) c.in_ok-flat.ensures)
