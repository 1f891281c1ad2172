-- The run-length code of a serial order.
use Rattle.std.proofs.Common.{◌≡◌, ◌≢◌, ℕ, zero, suc, ◌+◌, ◌-◌, ◌≤◌, Bool, true, false, ◌==◌, List, [], ◌∷◌, ◌++◌}
use Rattle.std.proofs.Common.{length, take, Option, Some, refl, sym, ap, subst, ◌∙◌, append_assoc, arith, add-one}
use Rattle.std.specs.List.{slice_get}
use Rattle.std.specs.Prelude.{replicate}
use Rattle.std.proofs.lemmas.Bool.Decides.{nat_tests}
use Rattle.std.proofs.lemmas.List.{append-nil, length-append, length-replicate, replicate-append-replicate, take_all}
use Rattle.std.proofs.lemmas.List.Concat.{flat_map-append}
use Rattle.el_base.proofs.Laws.FreedOrder.{length-order_below-more}
use Rattle.el_base.proofs.Laws.HartIds.{hart_id-of_hart}
use Rattle.el_base.proofs.Laws.ListLaws.{take_next}
use Rattle.el_base.specs.Freed.{order_below, order_of}
use Rattle.el_base.specs.declared.freed.Freed.{Freed}
use Rattle.el_base.specs.declared.hart_id.HartId.{HartId}
use Rattle.el_base.specs.declared.entries.Entry.{Entry}
use Rattle.chronicle.specs.Serial.{serial, taking_effect}
use Rattle.run_check.specs.Certified.{step_before, stretches_of, with_pending, IsCode}
use Rattle.run_check.specs.Content.{steps_in, written_out}
use Rattle.run_check.specs.declared.content.Stretch.{Stretch}

abbrev stretch_of : HartId → ℕ → Stretch
stretch_of hart count = record { hart = hart; count = count }

-- ---- the code at its end

-- the last stretch may have another count
pub last_changes : (xs : List Stretch) (s t : Stretch) → IsCode (xs ++ s ∷ []) → s.hart.number ≡ t.hart.number →
    1 ≤ t.count → IsCode (xs ++ t ∷ [])
last_changes [] s t code same some = some
last_changes (x ∷ []) s t code same some = (code.0, λ e. code.1 (e ∙ sym same), some)
last_changes (x ∷ y ∷ xs) s t code same some = (code.0, code.1, last_changes (y ∷ xs) s t code.2 same some)

-- a stretch of another hart may follow
pub one_follows : (xs : List Stretch) (s t : Stretch) → IsCode (xs ++ s ∷ []) → s.hart.number ≢ t.hart.number →
    1 ≤ t.count → IsCode ((xs ++ s ∷ []) ++ t ∷ [])
one_follows [] s t code other some = (code, other, some)
one_follows (x ∷ []) s t code other some = (code.0, code.1, (code.2, other, some))
one_follows (x ∷ y ∷ xs) s t code other some = (code.0, code.1, one_follows (y ∷ xs) s t code.2 other some)

pub written_with : (xs : List Stretch) (s : Stretch) → written_out (xs ++ s ∷ []) ≡ written_out xs ++ steps_in s
written_with xs s =
    flat_map-append steps_in xs (s ∷ []) ∙ ap (λ (l : List ℕ). written_out xs ++ l) (append-nil (steps_in s))

-- more steps in the last stretch
pub written_longer : (xs : List Stretch) (s : Stretch) (hart : HartId) (count : ℕ) → s.hart.number ≡ hart.number →
    written_out (xs ++ stretch_of hart (s.count + count) ∷ [])
    ≡ written_out (xs ++ s ∷ []) ++ replicate count hart.number
written_longer xs s hart count same =
    written_with xs (stretch_of hart (s.count + count))
    ∙ ap (λ (l : List ℕ). written_out xs ++ l) (sym (replicate-append-replicate s.count count hart.number))
    ∙ sym (append_assoc (written_out xs) (replicate s.count hart.number) (replicate count hart.number))
    ∙ ap (λ (n : ℕ). (written_out xs ++ replicate s.count n) ++ replicate count hart.number) (sym same)
    ∙ ap (λ (l : List ℕ). l ++ replicate count hart.number) (sym (written_with xs s))

pub last_fits : (xs : List Stretch) (s : Stretch) → s.count ≤ length (written_out (xs ++ s ∷ []))
last_fits xs s =
    omega (
      arith,
      ap length (written_with xs s),
      length-append (written_out xs) (steps_in s),
      length-replicate s.count s.hart.number,
    )

-- ---- the code is the only one of what it stands for

abbrev first_other : (stretches : List Stretch) (hart : ℕ) → Type 0
first_other [] hart = Unit {0}
first_other (next ∷ stretches) hart = next.hart.number ≢ hart

step_first : (hart : HartId) (stretches : List Stretch) → first_other stretches hart.number →
    step_before hart.number stretches ≡ stretch_of hart 1 ∷ stretches
step_first hart [] other = ap (λ (h : HartId). stretch_of h 1 ∷ []) (hart_id-of_hart hart)
step_first hart (next ∷ stretches) other =
    let no : (next.hart.number == hart.number) ≡ false = grind (arith, nat_tests) in
    rw no (ap (λ (h : HartId). stretch_of h 1 ∷ next ∷ stretches) (hart_id-of_hart hart))

step_more : (hart : HartId) (count : ℕ) (stretches : List Stretch) →
    step_before hart.number (stretch_of hart count ∷ stretches) ≡ stretch_of hart (count + 1) ∷ stretches
step_more hart count stretches =
    let yes : (hart.number == hart.number) ≡ true = grind (arith, nat_tests) in
    rw yes refl

steps_first : (hart : HartId) (count : ℕ) (harts : List ℕ) (stretches : List Stretch) → stretches_of harts ≡ stretches →
    first_other stretches hart.number → stretches_of (replicate (suc count) hart.number ++ harts)
    ≡ stretch_of hart (suc count) ∷ stretches
steps_first hart zero harts stretches is other =
    ap (step_before hart.number) is ∙ step_first hart stretches other
steps_first hart (suc count) harts stretches is other =
    ap (step_before hart.number) (steps_first hart count harts stretches is other)
    ∙ step_more hart (suc count) stretches
    ∙ ap (λ n. stretch_of hart n ∷ stretches) (add-one (suc count))

follows : (s : Stretch) (stretches : List Stretch) → IsCode (s ∷ stretches) →
    (1 ≤ s.count) × first_other stretches s.hart.number × IsCode stretches
follows s [] code = (code, tt, tt)
follows s (next ∷ stretches) code = (code.0, λ e. code.1 (sym e), code.2)

positive : (n : ℕ) → 1 ≤ n → (k : ℕ) × (n ≡ suc k)
positive zero some = absurd (omega arith)
positive (suc k) some = (k, refl)

pub code_of_written : (stretches : List Stretch) → IsCode stretches → stretches_of (written_out stretches) ≡ stretches
code_of_written [] code = refl
code_of_written (s ∷ stretches) code =
    let f = follows s stretches code in
    let k = positive s.count f.0 in
    ap (λ n. stretches_of (replicate n s.hart.number ++ written_out stretches)) k.1
    ∙ steps_first s.hart k.0 (written_out stretches) stretches (code_of_written stretches f.2) f.1
    ∙ ap (λ n. stretch_of s.hart n ∷ stretches) (sym k.1)

-- ---- the entries of a history

pub serial_more : (entries : List Entry) (place : ℕ) (entry : Entry) → slice_get entries place ≡ Some entry →
    serial (take (place + 1) entries) ≡ serial (take place entries)
    ++ taking_effect entry.event.hart.number entry.outcome
serial_more entries place entry found =
    ap (λ n. serial (take n entries)) (add-one place)
    ∙ ap serial (take_next entries place entry found)
    ∙ flat_map-append (λ (e : Entry). taking_effect e.event.hart.number e.outcome) (take place entries) (entry ∷ [])
    ∙ ap (λ (l : List ℕ). serial (take place entries) ++ l)
    (append-nil (taking_effect entry.event.hart.number entry.outcome))

-- the serial order of the first entries is no longer than that of all
pub serial_fits : (entries : List Entry) (place : ℕ) → length (serial (take place entries)) ≤ length (serial entries)
serial_fits [] zero = omega arith
serial_fits [] (suc place) = omega arith
serial_fits (entry ∷ entries) zero = omega arith
serial_fits (entry ∷ entries) (suc place) =
    let own = taking_effect entry.event.hart.number entry.outcome in
    omega (
      arith,
      serial_fits entries place,
      length-append own (serial (take place entries)),
      length-append own (serial entries),
    )

-- ---- the harts that an entry freed

below_fits : (more n : ℕ) (freed : Freed) → length (order_below n freed) ≤ length (order_below (n + more) freed)
below_fits zero n freed = let none : n + 0 ≡ n = omega arith in rw none (omega arith)
below_fits (suc more) n freed =
    let next : n + suc more ≡ n + more + 1 = omega arith in
    let longer = length-order_below-more (n + more) freed in
    let same = ap (λ (k : ℕ). length (order_below k freed)) next in
    omega (arith, below_fits more n freed, longer, same)

-- the first of them are no more than all
pub order_fits : (n : ℕ) (freed : Freed) → n ≤ 8 → length (order_below n freed) ≤ length (order_of freed)
unfolding order_of
order_fits n freed within =
    let all : n + (8 - n) ≡ 8 = omega arith in
    let same = ap (λ (k : ℕ). length (order_below k freed)) all in
    omega (arith, below_fits (8 - n) n freed, same)

-- all eight are all
pub all_freed : (n : ℕ) (freed : Freed) → n ≡ 8 → order_below n freed ≡ order_of freed
unfolding order_of
all_freed n freed is = ap (λ (k : ℕ). order_below k freed) is

-- ---- one extension

last_code : (xs : List Stretch) (s : Stretch) → IsCode (xs ++ s ∷ []) → 1 ≤ s.count
last_code [] s code = code
last_code (x ∷ []) s code = code.2
last_code (x ∷ y ∷ xs) s code = last_code (y ∷ xs) s code.2

pub begins : (items : List Stretch) (hart : HartId) (count : ℕ) → items ≡ [] → 1 ≤ count →
    IsCode (items ++ stretch_of hart count ∷ [])
begins items hart count none some = rw none some

-- pending steps, and more of the same hart
pub longer_code : (items : List Stretch) (s : Stretch) (hart : HartId) (count : ℕ) → IsCode (items ++ s ∷ []) →
    s.hart.number ≡ hart.number → IsCode (items ++ stretch_of hart (s.count + count) ∷ [])
longer_code items s hart count code same =
    let some = last_code items s code in
    last_changes items s (stretch_of hart (s.count + count)) code same (omega arith)

pub other_follows : (items pushed : List Stretch) (s : Stretch) (hart : HartId) (count : ℕ) → IsCode (items ++ s ∷ []) →
    pushed ≡ items ++ s ∷ [] → s.hart.number ≢ hart.number → 1 ≤ count → IsCode (pushed ++ stretch_of hart count ∷ [])
other_follows items pushed s hart count code is other some =
    subst (λ l. IsCode (l ++ stretch_of hart count ∷ [])) (sym is)
    (one_follows items s (stretch_of hart count) code other some)

-- what a comparison of two harts says
pub same_number : (a b : ℕ) (r : Bool) → r ≡ (a == b) → r ≡ true → a ≡ b
same_number a b r is holds = let e : (a == b) ≡ true = sym is ∙ holds in grind (arith, nat_tests)

pub other_number : (a b : ℕ) (r : Bool) → r ≡ (a == b) → r ≡ false → a ≢ b
other_number a b r is fails same = let e : (a == b) ≡ false = sym is ∙ fails in absurd (grind (arith, nat_tests))

-- the pending stretch is one of the list
pub pushed_pending : (items pushed : List Stretch) (last : Stretch) (pending : Option Stretch) → pending ≡ Some last →
    pushed ≡ items ++ last ∷ [] → pushed ≡ with_pending items pending
pushed_pending items pushed last pending is more = more ∙ ap (with_pending items) (sym is)

pub code_is : (items list : List Stretch) (pending : Option Stretch) (entries : List Entry) (place : ℕ) →
    list ≡ with_pending items pending → IsCode (with_pending items pending) →
    written_out (with_pending items pending) ≡ serial (take place entries) → length entries ≤ place →
    list ≡ stretches_of (serial entries)
code_is items list pending entries place is code written all =
    is
    ∙ sym (code_of_written (with_pending items pending) code)
    ∙ ap stretches_of written
    ∙ ap (λ l. stretches_of (serial l)) (take_all place entries all)
