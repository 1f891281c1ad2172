-- The certificate of a history and of a state keeps the rules.
use Rattle.std.proofs.Common.{◌≡◌, ◌≢◌, ℕ, zero, suc, ◌+◌, ◌-◌, ◌*◌, ◌/◌, ◌≤◌, ◌<◌, Bool, true, false, cond, ◌==◌, List}
use Rattle.std.proofs.Common.{[], ◌∷◌, ◌++◌, length, drop, refl, sym, ap, subst, ◌∙◌, arith, add-one, inl, inr}
use Rattle.std.specs.Prelude.{replicate, slice_index_or, All}
use Rattle.std.proofs.lemmas.Bool.{cases_lt}
use Rattle.std.proofs.lemmas.Bool.Decides.{nat_tests}
use Rattle.std.proofs.lemmas.List.{append-nil, get_or_append_left, get_or_at, length-append, length-drop}
use Rattle.std.proofs.lemmas.List.{length-take-le}
use Rattle.el_base.proofs.Laws.HartIds.{hart_id-number}
use Rattle.el_base.proofs.Laws.Lines.{line_addr-number}
use Rattle.el_base.specs.HartId.{hart_id}
use Rattle.el_base.specs.LineAddr.{line_addr}
use Rattle.el_base.specs.declared.hart_id.HartId.{HartId}
use Rattle.el_base.specs.declared.entries.Entry.{Entry}
use Rattle.chronicle.specs.Serial.{serial}
use Rattle.elf_image.specs.Program.{IsProgram, Program}
use Rattle.rv_flat.specs.FlatState.{FlatState, no_hart}
use Rattle.run_check.specs.Certified.{certificate_of, changed, changed_below, changed_lines, patch_of, step_before}
use Rattle.run_check.specs.Certified.{stretches_of, IsCode, IsHistoryOf, IsStateOf}
use Rattle.run_check.specs.Content.{steps_in, written_out}
use Rattle.run_check.specs.Rules.{count_wrong, hart_wrong, line_wrong, most_steps, steps_before}
use Rattle.run_check.specs.Spelling.{count_in, hart_in, line_in, patch_in, IsCertificate, IsView}
use Rattle.run_check.specs.declared.content.Patch.{Patch}
use Rattle.run_check.specs.declared.content.Stretch.{Stretch}
use Rattle.run_check.proofs.Runs.{length_all_written}

-- ---- the stretches of a serial order

-- harts of a list are below a number
abbrev pub Below : ℕ → List ℕ → Type 0
Below n [] = Unit {0}
Below n (x ∷ xs) = (x < n) × Below n xs

pub below_from_all : (n : ℕ) (xs : List ℕ) → All (λ x. x < n) xs → Below n xs
below_from_all n [] each = tt
below_from_all n (x ∷ xs) each =
    (each 0 x (omega arith), below_from_all n xs (λ k d within. each (suc k) d (omega arith)))

pub weaker : (m n : ℕ) (xs : List ℕ) → m ≤ n → Below m xs → Below n xs
weaker m n [] le b = tt
weaker m n (x ∷ xs) le b = let low = b.0 in (omega arith, weaker m n xs le b.1)

abbrev stretch_of : HartId → ℕ → Stretch
stretch_of hart count = record { hart = hart; count = count }

abbrev choose : Bool → ℕ → Stretch → List Stretch → List Stretch
choose same hart s stretches =
    cond same (stretch_of s.hart (s.count + 1) ∷ stretches) (stretch_of (hart_id hart) 1 ∷ s ∷ stretches)

step_written_where : (hart : ℕ) (s : Stretch) (stretches : List Stretch) → hart < 8 → (same : Bool) →
    (s.hart.number == hart) ≡ same → written_out (choose same hart s stretches) ≡ hart ∷ written_out (s ∷ stretches)
step_written_where hart s stretches low true is =
    let same : s.hart.number ≡ hart = grind (arith, nat_tests) in
    ap (λ n. replicate n s.hart.number ++ written_out stretches) (add-one s.count)
    ∙ ap (λ n. n ∷ (replicate s.count s.hart.number ++ written_out stretches)) same
step_written_where hart s stretches low false is = ap (λ n. n ∷ written_out (s ∷ stretches)) (hart_id-number hart low)

longer : (s : Stretch) (stretches : List Stretch) → IsCode (s ∷ stretches) →
    IsCode (stretch_of s.hart (s.count + 1) ∷ stretches)
longer s [] code = omega arith
longer s (next ∷ stretches) code = (omega arith, code.1, code.2)

step_code_where : (hart : ℕ) (s : Stretch) (stretches : List Stretch) → hart < 8 → IsCode (s ∷ stretches) →
    (same : Bool) → (s.hart.number == hart) ≡ same → IsCode (choose same hart s stretches)
step_code_where hart s stretches low code true is = longer s stretches code
step_code_where hart s stretches low code false is =
    let other : s.hart.number ≢ hart = λ e. absurd (grind (arith, nat_tests)) in
    (omega arith, λ e. other (sym e ∙ hart_id-number hart low), code)

-- one step before a code is a code of one step more
step_written : (hart : ℕ) (stretches : List Stretch) → hart < 8 →
    written_out (step_before hart stretches) ≡ hart ∷ written_out stretches
step_written hart [] low = ap (λ n. n ∷ []) (hart_id-number hart low)
step_written hart (s ∷ stretches) low = step_written_where hart s stretches low (s.hart.number == hart) refl

step_code : (hart : ℕ) (stretches : List Stretch) → hart < 8 → IsCode stretches → IsCode (step_before hart stretches)
step_code hart [] low code = omega arith
step_code hart (s ∷ stretches) low code = step_code_where hart s stretches low code (s.hart.number == hart) refl

pub stretches_code : (harts : List ℕ) → Below 8 harts → IsCode (stretches_of harts)
stretches_code [] low = tt
stretches_code (hart ∷ harts) low = step_code hart (stretches_of harts) low.0 (stretches_code harts low.1)

pub stretches_written : (harts : List ℕ) → Below 8 harts → written_out (stretches_of harts) ≡ harts
stretches_written [] low = refl
stretches_written (hart ∷ harts) low =
    step_written hart (stretches_of harts) low.0 ∙ ap (λ (l : List ℕ). hart ∷ l) (stretches_written harts low.1)

-- each stretch of a code has a step, and its hart is one of those of the serial order
code_counts : (stretches : List Stretch) → IsCode stretches → (k : ℕ) → k < length stretches → 1 ≤ count_in stretches k
code_counts [] code k within = absurd (omega arith)
code_counts (s ∷ []) code zero within = code
code_counts (s ∷ []) code (suc k) within = absurd (omega arith)
code_counts (s ∷ next ∷ stretches) code zero within = code.0
code_counts (s ∷ next ∷ stretches) code (suc k) within = code_counts (next ∷ stretches) code.2 k (omega arith)

code_apart : (stretches : List Stretch) → IsCode stretches → (k : ℕ) → suc k < length stretches →
    hart_in stretches (suc k) ≢ hart_in stretches k
code_apart [] code k within = absurd (omega arith)
code_apart (s ∷ []) code k within = absurd (omega arith)
code_apart (s ∷ next ∷ stretches) code zero within = λ e. code.1 (sym e)
code_apart (s ∷ next ∷ stretches) code (suc k) within = code_apart (next ∷ stretches) code.2 k (omega arith)

below-left : (n : ℕ) (xs ys : List ℕ) → Below n (xs ++ ys) → Below n ys
below-left n [] ys b = b
below-left n (x ∷ xs) ys b = below-left n xs ys b.1

below-first : (n count x : ℕ) (ys : List ℕ) → 1 ≤ count → Below n (replicate count x ++ ys) → x < n
below-first n zero x ys some b = absurd (omega arith)
below-first n (suc count) x ys some b = b.0

code_harts : (n : ℕ) (stretches : List Stretch) → ((k : ℕ) → k < length stretches → 1 ≤ count_in stretches k) →
    Below n (written_out stretches) → (k : ℕ) → k < length stretches → hart_in stretches k < n
code_harts n [] some b k within = absurd (omega arith)
code_harts n (s ∷ stretches) some b zero within =
    below-first n s.count s.hart.number (written_out stretches) (some 0 (omega arith)) b
code_harts n (s ∷ stretches) some b (suc k) within =
    code_harts n stretches (λ i low. some (suc i) (omega arith)) (below-left n (steps_in s) (written_out stretches) b) k
    (omega arith)

hart_rule : (harts : ℕ) (f : ℕ → ℕ) (k : ℕ) → f (suc k) < harts → f (suc k) ≢ f k → hart_wrong harts f (suc k) ≡ false
hart_rule harts f k low other =
    let back : suc k - 1 ≡ k = omega arith in
    let other' : f (suc k) ≢ f (suc k - 1) = subst (λ n. f (suc k) ≢ f n) (sym back) other in
    grind (arith, nat_tests)

first_hart_rule : (harts : ℕ) (f : ℕ → ℕ) → f 0 < harts → hart_wrong harts f 0 ≡ false
first_hart_rule harts f low = grind (arith, nat_tests)

harts_right : (harts : ℕ) (stretches : List Stretch) → IsCode stretches →
    ((k : ℕ) → k < length stretches → hart_in stretches k < harts) → (k : ℕ) → k < length stretches →
    hart_wrong harts (hart_in stretches) k ≡ false
harts_right harts stretches code low zero within = first_hart_rule harts (hart_in stretches) (low 0 within)
harts_right harts stretches code low (suc k) within =
    hart_rule harts (hart_in stretches) k (low (suc k) within) (code_apart stretches code k within)

steps_grow : (f : ℕ → ℕ) (k n : ℕ) → k ≤ n → steps_before f k ≤ steps_before f n
steps_grow f k zero le = let same : k ≡ 0 = omega arith in rw same (omega arith)
steps_grow f k (suc n) le =
    elim (cases_lt n k) [
      | inl last ↦ let same : k ≡ suc n = omega arith in rw same (omega arith)
      | inr more ↦ let rest = steps_grow f k n more in omega arith
    ]

count_rule : (f : ℕ → ℕ) (k : ℕ) → 1 ≤ f k → steps_before f (suc k) ≤ most_steps → count_wrong f k ≡ false
count_rule f k some few = grind (arith, nat_tests)

counts_right : (stretches : List Stretch) → IsCode stretches → length (written_out stretches) ≤ most_steps →
    (k : ℕ) → k < length stretches → count_wrong (count_in stretches) k ≡ false
counts_right stretches code few k within =
    count_rule (count_in stretches) k (code_counts stretches code k within)
    (let grow = steps_grow (count_in stretches) (suc k) (length stretches) (omega arith) in let all =
    length_all_written stretches in omega arith)

-- ---- the lines that differ

-- what is known of the line at an index
record LineRule (program : Program) (lines : List Patch) (end k : ℕ) : Type 0 where
  low : line_in lines k < program.base / 64 + end
  ascends : (j : ℕ) → suc j ≡ k → line_in lines j < line_in lines k
  bytes : length (patch_in lines k).bytes ≡ 64

wider : (program : Program) (lines : List Patch) (end k : ℕ) → LineRule program lines end k →
    LineRule program lines (suc end) k
wider program lines end k r = let low = r.low in record { low = omega arith; ascends = r.ascends; bytes = r.bytes }

patch_left : (xs : List Patch) (y : Patch) (k : ℕ) → k < length xs → patch_in (xs ++ y ∷ []) k ≡ patch_in xs k
patch_left xs y k within = get_or_append_left xs (y ∷ []) (record { line = line_addr 0; bytes = [] }) k within

patch_last : (xs : List Patch) (y : Patch) (k : ℕ) → length xs ≡ k → patch_in (xs ++ y ∷ []) k ≡ y
patch_last xs y k is = get_or_at xs y [] (record { line = line_addr 0; bytes = [] }) k is

one_line_more : (program : Program) (xs : List Patch) (y : Patch) (end : ℕ) →
    ((k : ℕ) → k < length xs → LineRule program xs end k) → y.line.number ≡ program.base / 64 + end →
    length y.bytes ≡ 64 → (k : ℕ) → k < length (xs ++ y ∷ []) → LineRule program (xs ++ y ∷ []) (suc end) k
one_line_more program xs y end each number bytes k within =
    let long = length-append xs (y ∷ []) in
    elim (cases_lt k (length xs)) [
      | inl before ↦
          let r = each k before in
          let here : line_in (xs ++ y ∷ []) k ≡ line_in xs k =
          ap (λ (p : Patch). p.line.number) (patch_left xs y k before) in
          record {
            low = let low = r.low in omega (arith, here);
            ascends =
                λ j is.
                let there : line_in (xs ++ y ∷ []) j ≡ line_in xs j =
                ap (λ (p : Patch). p.line.number) (patch_left xs y j (omega arith)) in
                let up = r.ascends j is in
                omega (arith, here, there);
            bytes = ap (λ (p : Patch). length p.bytes) (patch_left xs y k before) ∙ r.bytes;
          }
      | inr past ↦
          let last : length xs ≡ k = omega (arith, long) in
          let here : line_in (xs ++ y ∷ []) k ≡ y.line.number =
          ap (λ (p : Patch). p.line.number) (patch_last xs y k last) in
          record {
            low = omega (arith, here, number);
            ascends =
                λ j is.
                let there : line_in (xs ++ y ∷ []) j ≡ line_in xs j =
                ap (λ (p : Patch). p.line.number) (patch_left xs y j (omega arith)) in
                let low = (each j (omega arith)).low in
                omega (arith, here, there, number);
            bytes = ap (λ (p : Patch). length p.bytes) (patch_last xs y k last) ∙ bytes;
          }
    ]

-- the lines of memory fit
record Fits (program : Program) (memory : List ℕ) (end : ℕ) : Type 0 where
  whole : 64 * end ≤ length memory
  numbers : program.base / 64 + end ≤ 67108864

changed_where : (program : Program) (memory : List ℕ) (end : ℕ) (xs : List Patch) (is-changed : Bool) →
    Fits program memory (suc end) → ((k : ℕ) → k < length xs → LineRule program xs end k) → length xs ≤ end →
    ((k : ℕ) → k < length (xs ++ cond is-changed (patch_of program memory end ∷ []) []) →
    LineRule program (xs ++ cond is-changed (patch_of program memory end ∷ []) []) (suc end) k)
    × (length (xs ++ cond is-changed (patch_of program memory end ∷ []) []) ≤ suc end)
changed_where program memory end xs true f each few =
    let whole = f.whole in
    let numbers = f.numbers in
    let y = patch_of program memory end in (
      one_line_more program xs y end each (line_addr-number (program.base / 64 + end) (omega arith))
          (length-take-le 64 (drop (64 * end) memory) (omega (arith, length-drop (64 * end) memory))),
      omega (arith, length-append xs (y ∷ [])),
    )
changed_where program memory end xs false f each few =
    rw append-nil (λ k within. wider program xs end k (each k within), omega arith)

lines_rule : (program : Program) (memory : List ℕ) (end : ℕ) → Fits program memory end →
    ((k : ℕ) → k < length (changed_below program memory end) →
    LineRule program (changed_below program memory end) end k)
    × (length (changed_below program memory end) ≤ end)
lines_rule program memory zero f = (λ k within. absurd (omega arith), omega arith)
lines_rule program memory (suc end) f =
    let whole = f.whole in
    let numbers = f.numbers in
    let rest = lines_rule program memory end (record { whole = omega arith; numbers = omega arith }) in
    changed_where program memory end (changed_below program memory end) (changed program memory end) f rest.0 rest.1

line_rule : (f : ℕ → ℕ) (k : ℕ) → f (suc k) < 67108864 → f k < f (suc k) → line_wrong f (suc k) ≡ false
line_rule f k low up =
    let back : suc k - 1 ≡ k = omega arith in
    let up' : f (suc k - 1) < f (suc k) = subst (λ n. f n < f (suc k)) (sym back) up in
    grind (arith, nat_tests)

first_line_rule : (f : ℕ → ℕ) → f 0 < 67108864 → line_wrong f 0 ≡ false
first_line_rule f low = grind (arith, nat_tests)

lines_right : (lines : List Patch) → ((k : ℕ) → k < length lines → line_in lines k < 67108864) →
    ((k : ℕ) → suc k < length lines → line_in lines k < line_in lines (suc k)) →
    (k : ℕ) → k < length lines → line_wrong (line_in lines) k ≡ false
lines_right lines low up zero within = first_line_rule (line_in lines) (low 0 within)
lines_right lines low up (suc k) within = line_rule (line_in lines) k (low (suc k) within) (up k within)

-- ---- all rules

pub certificate_rules : (program : Program) (entries : List Entry) (state : FlatState) → IsProgram program →
    IsHistoryOf program entries → IsStateOf program state →
    ((hart : ℕ) → hart < length state.harts → IsView (slice_index_or state.harts hart no_hart)) →
    IsCertificate (certificate_of program entries state)
unfolding certificate_of
certificate_rules program entries state valid history of views =
    let harts = serial entries in
    let below : Below program.harts harts = below_from_all program.harts harts history.harts in
    let few_harts = valid.few_harts in
    let below8 : Below 8 harts = weaker program.harts 8 harts few_harts below in
    let code = stretches_code harts below8 in
    let written = stretches_written harts below8 in
    let end = length program.bytes / 64 in
    let high = valid.not_high in
    let wide = valid.not_wide in
    let size = of.size in
    let rule =
    lines_rule program state.bytes end (record {
      whole = omega arith;
      numbers = omega (arith, valid.base_on_line, valid.length_on_line);
    }) in
    let lines = changed_lines program state.bytes in
    let low : (k : ℕ) → k < length lines → line_in lines k < 67108864 =
    λ k within. let r = (rule.0 k within).low in omega (arith, valid.base_on_line, valid.length_on_line)
    in
    record {
      some_hart = valid.some_hart;
      few_harts = few_harts;
      harts =
          harts_right program.harts (stretches_of harts) code
          (code_harts program.harts (stretches_of harts) (code_counts (stretches_of harts) code)
          (subst (Below program.harts) (sym written) below));
      counts = counts_right (stretches_of harts) code (let few = history.few in omega (arith, ap length written));
      one_view_each = of.one_view_each;
      views = views;
      output = of.output;
      few_lines = let few = rule.1 in omega arith;
      lines = lines_right lines low (λ k within. (rule.0 (suc k) within).ascends k refl);
      line_bytes = λ k within. (rule.0 k within).bytes;
    }
