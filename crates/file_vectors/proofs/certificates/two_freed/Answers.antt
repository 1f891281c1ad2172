use Rattle.std.proofs.Common.{◌≡◌, ℕ, ◌<◌, ◌==◌, ◌++◌, if◌then◌else◌, List, [], ◌∷◌, length, refl, ap, subst, sym, ◌∙◌}
use Rattle.std.proofs.Common.{arith}
use Rattle.std.specs.List.{flat_map, range_with_len}
use Rattle.std.specs.Prelude.{replicate, All}
use Rattle.std.proofs.lemmas.List.Elements.{All-append, All-replicate}
use Rattle.el_base.specs.Freed.{count_in, order_of}
use Rattle.el_base.specs.declared.losers.Losers.{Losers}
use Rattle.el_base.specs.declared.entries.Entry.{Entry}
use Rattle.el_base.specs.declared.events.Kind.TheVariants.{Order, Step}
use Rattle.el_base.specs.declared.freed.Freed.{Freed}
use Rattle.el_base.specs.declared.hart_id.HartId.{HartId}
use Rattle.el_base.specs.declared.outcomes.Outcome.TheVariants.{Ordered, Ran}
use Rattle.chronicle.specs.Serial.{serial}
use Rattle.elf_image.specs.Program.{Program}
use Rattle.rv_flat.specs.FlatState.{FlatState}
use Rattle.rv_flat.specs.Run.{run}
use Rattle.rv_flat.proofs.Laws.StepLaws.{start_harts}
use Rattle.run_check.specs.Certified.{IsHistoryOf}
use Rattle.run_check.proofs.Laws.ReachedStates.{reached_is_state}
use Rattle.file_vectors.proofs.certificates.two_freed.Goals as goal

-- two instructions of hart 0 and one of hart 1
abbrev two_and_one : ℕ → ℕ
two_and_one h = if h == 0 then 2 else if h == 1 then 1 else 0

same_counts : (freed : Freed) → ((h : ℕ) → count_in freed h ≡ two_and_one h) → (harts : List ℕ) →
    flat_map (λ h. replicate (count_in freed h) h) harts ≡ flat_map (λ h. replicate (two_and_one h) h) harts
same_counts freed is [] = refl
same_counts freed is (h ∷ harts) =
    ap (λ (n : ℕ). replicate n h ++ flat_map (λ h. replicate (count_in freed h) h) harts) (is h)
    ∙ ap (λ (l : List ℕ). replicate (two_and_one h) h ++ l) (same_counts freed is harts)

order_is : (freed : Freed) → ((h : ℕ) → count_in freed h ≡ two_and_one h) → order_of freed ≡ 0 ∷ 0 ∷ 1 ∷ []
unfolding order_of
order_is freed is = same_counts freed is (range_with_len 0 8)

abbrev made : HartId → HartId → Losers → Freed → List Entry
made first third losers freed =
    record { event = record { kind = Step; hart = first }; outcome = Ran }
    ∷ record { event = record { kind = Order; hart = third }; outcome = Ordered losers freed }
    ∷ []

serial_is : (first third : HartId) (losers : Losers) (freed : Freed) → first.number ≡ 0 →
    ((h : ℕ) → count_in freed h ≡ two_and_one h) → serial (made first third losers freed) ≡ 0 ∷ 0 ∷ 0 ∷ 1 ∷ []
serial_is first third losers freed zero counts =
    ap (λ (h : ℕ). h ∷ (order_of freed ++ [])) zero ∙ ap (λ (l : List ℕ). 0 ∷ (l ++ [])) (order_is freed counts)

two_entries : (program : Program) (entries : List Entry) (one two : Entry) (first third : HartId) (losers : Losers)
    (freed : Freed) → program.harts ≡ 3 → entries ≡ one ∷ two ∷ [] →
    one ≡ record { event = record { kind = Step; hart = first }; outcome = Ran } →
    two ≡ record { event = record { kind = Order; hart = third }; outcome = Ordered losers freed } → first.number ≡ 0 →
    ((h : ℕ) → count_in freed h ≡ two_and_one h) → IsHistoryOf program entries
two_entries program entries one two first third losers freed three both ran ordered zero counts =
    let order : serial entries ≡ 0 ∷ 0 ∷ 0 ∷ 1 ∷ [] =
    ap serial
    (both
    ∙ ap (λ (e : Entry). e ∷ two ∷ []) ran
    ∙ ap (λ (e : Entry). record { event = record { kind = Step; hart = first }; outcome = Ran } ∷ e ∷ []) ordered)
    ∙ serial_is first third losers freed zero counts
    in
    let P : ℕ → Type 0 = λ h. h < program.harts in
    record {
      harts =
          subst (All P) (sym order)
          (All-append P (replicate 3 0) (replicate 1 1) (All-replicate P 3 0 (omega arith))
          (All-replicate P 1 1 (omega arith)));
      few = omega (arith, ap length order);
    }

pub run_stretch-requires : goal.run_stretch-requires
run_stretch-requires c =
    omega (
      arith,
      ap (λ (s : FlatState). length s.harts) c.in_ok-flat.ensures,
      start_harts c.args.image.now,
      c.requires,
    )

pub run_stretch-requires-2 : goal.run_stretch-requires-2
run_stretch-requires-2 c =
    omega (
      arith,
      c.run_stretch.ensures.harts,
      ap (λ (s : FlatState). length s.harts) c.in_ok-flat.ensures,
      start_harts c.args.image.now,
      c.requires,
    )

pub returns-clause-history : goal.returns-clause-history
returns-clause-history c =
    two_entries c.args.image.now _ c.entry.result c.entry-2.result _ _ _ _ c.requires
    (ap (λ h. h.entries) c.push-2.ensures
    ∙ ap (λ h. h.entries ++ c.entry-2.result ∷ []) c.push.ensures
    ∙ ap (λ h. (h.entries ++ c.entry.result ∷ []) ++ c.entry-2.result ∷ []) c.in_ok-history.ensures)
    c.entry.ensures c.entry-2.ensures refl
    (λ h. c.with-freed.ensures h
    ∙ ap (λ (n : ℕ). if h == 0 then 2 else n) (c.with.ensures h)
    ∙ ap (λ (n : ℕ). if h == 0 then 2 else if h == 1 then 1 else n) (c.none.ensures.counts h))

pub returns-clause-state : goal.returns-clause-state
returns-clause-state c =
    reached_is_state c.args.image.now c.run_stretch-2.new.flat (0 ∷ 0 ∷ 0 ∷ 1 ∷ [])
    (c.run_stretch-2.ensures.ran
    ∙ ap (λ s. run s (1 ∷ [])) (c.run_stretch.ensures.ran ∙ ap (λ s. run s (0 ∷ 0 ∷ 0 ∷ [])) c.in_ok-flat.ensures))
