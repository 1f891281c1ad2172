-- Runs of stretches.
use Rattle.std.proofs.Common.{◌≡◌, ◌≢◌, ℕ, zero, suc, ◌+◌, ◌≤◌, ◌<◌, List, [], ◌∷◌, ◌++◌, length, get_or, take, Option}
use Rattle.std.proofs.Common.{Some, refl, sym, ap, subst, ◌∙◌, arith, add-one}
use Rattle.std.specs.List.{slice_get}
use Rattle.std.specs.Prelude.{slice_index_or}
use Rattle.std.proofs.lemmas.List.{append-nil, length-append, length-replicate, take_all, take_more}
use Rattle.std.proofs.lemmas.List.Concat.{flat_map-append}
use Rattle.std.proofs.lemmas.Option.{slice_get-get_or, slice_get_read}
use Rattle.elf_image.specs.Program.{Program}
use Rattle.rv_alu.specs.declared.view.HartView.{HartView}
use Rattle.rv_flat.specs.FlatState.{FlatState, no_hart, start}
use Rattle.rv_flat.specs.Run.{alone, run}
use Rattle.rv_flat.specs.Step.{flat}
use Rattle.rv_flat.proofs.Laws.StepLaws.{alone_sum, keeps_shape, run_append, start_harts}
use Rattle.el_base.specs.HartId.{hart_id}
use Rattle.run_check.specs.Content.{steps_in, written_out}
use Rattle.run_check.specs.Rules.{steps_before}
use Rattle.run_check.specs.Spelling.{count_in}
use Rattle.run_check.specs.declared.content.Stretch.{Stretch}

-- what two reads gave
pub both_read : (harts views : List HartView) (number from : ℕ) (mine his : HartView) → from ≡ number →
    number < length harts → number < length views → mine ≡ slice_index_or harts number no_hart →
    his ≡ get_or views from his → (slice_get harts number ≡ Some mine) × (slice_get views number ≡ Some his)
both_read harts views number from mine his same in-harts in-views is read = (
  slice_get-get_or harts number no_hart in-harts ∙ ap (λ (v : HartView). Some v) (sym is),
  slice_get_read views (length views) number his refl in-views (subst (λ n. his ≡ get_or views n his) same read),
)

pub some_differ : {X : Type 0} {a b : Option X} {x y : X} → a ≡ Some x → b ≡ Some y → x ≢ y → a ≢ b
some_differ is is' differ same = differ cc

-- one step more
pub step_more : (initial before after : FlatState) (hart n : ℕ) → before ≡ alone initial hart n →
    after ≡ flat before hart → after ≡ alone initial hart (n + 1)
step_more initial before after hart n ran stepped =
    stepped ∙ ap (λ s. flat s hart) ran ∙ sym (alone_sum initial hart n 1)

pub same_harts : (before after : FlatState) (hart count : ℕ) → after ≡ flat before hart → length before.harts ≡ count →
    length after.harts ≡ count
same_harts before after hart count stepped many =
    ap (λ (s : FlatState). length s.harts) stepped ∙ (keeps_shape before hart).harts ∙ many

-- one stretch more

pub written_more : (xs : List Stretch) (i : ℕ) (stretch d : Stretch) → i < length xs → get_or xs i d ≡ stretch →
    written_out (take (i + 1) xs) ≡ written_out (take i xs) ++ steps_in stretch
written_more xs i stretch d within is =
    ap written_out (take_more xs i d within ∙ ap (λ (s : Stretch). take i xs ++ s ∷ []) is)
    ∙ flat_map-append steps_in (take i xs) (stretch ∷ [])
    ∙ ap (λ (l : List ℕ). written_out (take i xs) ++ l) (append-nil (steps_in stretch))

pub stretch_more : (initial before after : FlatState) (xs : List Stretch) (i : ℕ) (stretch d : Stretch) →
    i < length xs → get_or xs i d ≡ stretch → before ≡ run initial (written_out (take i xs)) →
    after ≡ run before (steps_in stretch) → after ≡ run initial (written_out (take (i + 1) xs))
stretch_more initial before after xs i stretch d within is ran more =
    more
    ∙ ap (λ s. run s (steps_in stretch)) ran
    ∙ sym (run_append initial (written_out (take i xs)) (steps_in stretch))
    ∙ ap (run initial) (sym (written_more xs i stretch d within is))

pub length_written : (xs : List Stretch) (i : ℕ) → i ≤ length xs →
    length (written_out (take i xs)) ≡ steps_before (count_in xs) i
length_written xs zero within = refl
length_written xs (suc i) within =
    let before = length_written xs i (omega arith) in
    let d : Stretch = record { hart = hart_id 0; count = 0 } in
    let stretch = get_or xs i d in
    let next : i + 1 ≡ suc i = add-one i in
    ap (λ n. length (written_out (take n xs))) (sym next)
    ∙ ap length (written_more xs i stretch d (omega arith) refl)
    ∙ length-append (written_out (take i xs)) (steps_in stretch)
    ∙ omega (arith, before, length-replicate stretch.count stretch.hart.number)

pub length_all_written : (xs : List Stretch) → length (written_out xs) ≡ steps_before (count_in xs) (length xs)
length_all_written xs =
    ap (λ (l : List Stretch). length (written_out l)) (sym (take_all (length xs) xs (omega arith)))
    ∙ length_written xs (length xs) (omega arith)

-- what a run keeps
pub record RunKeeps (before after : FlatState) : Type 0 where
  pub base : after.base ≡ before.base
  pub bytes : length after.bytes ≡ length before.bytes
  pub harts : length after.harts ≡ length before.harts

pub run_keeps : (state : FlatState) (harts : List ℕ) → RunKeeps state (run state harts)
run_keeps state [] = record { base = refl; bytes = refl; harts = refl }
run_keeps state (hart ∷ harts) =
    let one = keeps_shape state hart in
    let more = run_keeps (flat state hart) harts in
    record {
      base = more.base ∙ one.base;
      bytes = more.bytes ∙ one.length_of_bytes;
      harts = more.harts ∙ one.harts;
    }

-- the steps so far, and those of one stretch more
pub step_counts : (xs : List Stretch) (i : ℕ) (stretch : Stretch) (steps count : ℕ) →
    get_or xs i (record { hart = hart_id 0; count = 0 }) ≡ stretch → steps ≡ steps_before (count_in xs) i →
    count ≡ stretch.count → steps + count ≡ steps_before (count_in xs) (i + 1)
step_counts xs i stretch steps count is before own =
    let here : count_in xs i ≡ stretch.count = ap (λ (s : Stretch). s.count) is in
    let sum : steps + count ≡ steps_before (count_in xs) (suc i) = omega (arith, before, own, here) in
    sum ∙ ap (steps_before (count_in xs)) (sym (add-one i))

pub steps_at : (xs : List Stretch) {i n : ℕ} → i ≡ n → steps_before (count_in xs) i ≡ steps_before (count_in xs) n
steps_at xs same = ap (steps_before (count_in xs)) same

-- what stands after the run of a certificate
pub reached_keeps : (program : Program) (harts : List ℕ) → RunKeeps (start program) (run (start program) harts)
reached_keeps program harts = run_keeps (start program) harts

pub start_base : (program : Program) → (start program).base ≡ program.base
unfolding start
start_base program = refl

pub start_bytes : (program : Program) → (start program).bytes ≡ program.bytes
unfolding start
start_bytes program = refl

pub reached_base : (program : Program) (harts : List ℕ) → (run (start program) harts).base ≡ program.base
reached_base program harts = (run_keeps (start program) harts).base ∙ start_base program

pub reached_size : (program : Program) (harts : List ℕ) →
    length (run (start program) harts).bytes ≡ length program.bytes
reached_size program harts = (run_keeps (start program) harts).bytes ∙ ap length (start_bytes program)

pub reached_harts : (program : Program) (harts : List ℕ) → length (run (start program) harts).harts ≡ program.harts
reached_harts program harts = (run_keeps (start program) harts).harts ∙ start_harts program
