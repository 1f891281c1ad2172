-- A head without a fault is spelled by what stands in it.
use Rattle.std.proofs.Common.{◌≡◌, ℕ, ◌+◌, ◌≤◌, ◌<◌, Bool, true, not, List, [], ◌∷◌, ◌++◌, length, get_or}
use Rattle.std.proofs.Common.{drop, zero, suc, None}
use Rattle.std.proofs.Common.{refl, sym, ap, ◌∙◌, arith}
use Rattle.std.proofs.Math.Seq.{drop-cons}
use Rattle.std.proofs.lemmas.Bool.{leb-true, not-false}
use Rattle.std.proofs.lemmas.List.{drop-drop, take-append-drop}
use Rattle.el_base.specs.Config.{allows}
use Rattle.el_base.specs.declared.config.ConfigFault.TheVariants.{Harts, Sets, Ways, Lines, Long, Steps}
use Rattle.el_base.specs.Firsts.{first_of, some_if}
use Rattle.byteorder.specs.Endian.{little_bytes}
use Rattle.file_numbers.specs.Numbers.{IsBytes, number_at}
use Rattle.file_numbers.proofs.Laws.Fields.{field_none, wrong_none}
use Rattle.file_numbers.proofs.Laws.Numbers.{number_piece}
use Rattle.trace_file.specs.declared.fault.FaultKind.TheVariants.{Magic, Config as config_kind}
use Rattle.el_base.specs.Modes.{mode_number}
use Rattle.el_base.proofs.Laws.Options.{cond_none, or_none}
use Rattle.trace_file.specs.Spelling.{head}
use Rattle.trace_file.specs.FaultKinds.{fault_of}
use Rattle.trace_file.specs.Codes.{mode_at}
use Rattle.trace_file.specs.Faults.{wrong, byte_fault, magic_fault, settings_fault, number_fault, is_mode}
use Rattle.trace_file.specs.Faults.{config_at}

-- ---- numbers

four_at : (file : List ℕ) (place end : ℕ) → IsBytes file → end ≤ length file → place + 4 ≡ end →
    little_bytes 4 (number_at file place) ++ drop end file ≡ drop place file
four_at file place end fits long is =
    let skipped : drop end file ≡ drop 4 (drop place file) =
    ap (λ (n : ℕ). drop n file) (sym is) ∙ sym (drop-drop 4 place file)
    in
    ap (λ (cells : List ℕ). cells ++ drop end file) (sym (number_piece file place fits (omega arith)))
    ∙ rw skipped (take-append-drop 4 (drop place file))

-- ---- faults

magic_none : (file : List ℕ) → magic_fault file ≡ None →
    (get_or file 0 0 ≡ 0x45) × (get_or file 1 0 ≡ 0x4c) × (get_or file 2 0 ≡ 0x54) × (get_or file 3 0 ≡ 0x52)
unfolding magic_fault
magic_none file none =
    let third = wrong file 3 0x52 Magic ∷ [] in
    let second = wrong file 2 0x54 Magic ∷ third in
    let first = wrong file 1 0x4c Magic ∷ second in
    let e = field_none _ file 4 (first_of (wrong file 0 0x45 Magic ∷ first)) none in
    let e0 = or_none (wrong file 0 0x45 Magic) (first_of first) e.1 in
    let e1 = or_none (wrong file 1 0x4c Magic) (first_of second) e0.1 in
    let e2 = or_none (wrong file 2 0x54 Magic) (first_of third) e1.1 in
    let e3 = or_none (wrong file 3 0x52 Magic) None e2.1 in (
      wrong_none (fault_of Magic) file 0 0x45 e0.0,
      wrong_none (fault_of Magic) file 1 0x4c e1.0,
      wrong_none (fault_of Magic) file 2 0x54 e2.0,
      wrong_none (fault_of Magic) file 3 0x52 e3.0,
    )

pub mode_again : (n : ℕ) → n ≤ 2 → mode_number (mode_at n) ≡ n
mode_again zero small = refl
mode_again (suc zero) small = refl
mode_again (suc (suc zero)) small = refl
mode_again (suc (suc (suc n))) small = absurd (omega arith)

-- a field without a fault passes its test
pub byte_passed : (file : List ℕ) (place : ℕ) (test : ℕ → Bool) → byte_fault file place test ≡ None →
    test (get_or file place 0) ≡ true
unfolding byte_fault
byte_passed file place test none =
    let passed = test (get_or file place 0) in
    let e = field_none _ file (place + 1) (some_if (not passed) (fault_of config_kind place)) none in
    not-false passed (cond_none (not passed) (fault_of config_kind place) None e.1).0

pub number_passed : (file : List ℕ) (place : ℕ) (test : ℕ → Bool) → number_fault file place test ≡ None →
    (place + 4 ≤ length file) × (test (number_at file place) ≡ true)
unfolding number_fault
number_passed file place test none =
    let passed = test (number_at file place) in
    let e = field_none _ file (place + 4) (some_if (not passed) (fault_of config_kind place)) none in
    (e.0, not-false passed (cond_none (not passed) (fault_of config_kind place) None e.1).0)

mode_none : (file : List ℕ) → settings_fault file ≡ None →
    mode_number (mode_at (get_or file 6 0)) ≡ get_or file 6 0
unfolding settings_fault
mode_none file none =
    let numbers = number_fault file 10 (allows Long) ∷ number_fault file 14 (allows Steps) ∷ [] in
    let behind =
    byte_fault file 7 (allows Sets) ∷ byte_fault file 8 (allows Ways) ∷ byte_fault file 9
    (allows Lines) ∷ numbers in
    let e = or_none (byte_fault file 5 (allows Harts)) (first_of (byte_fault file 6 is_mode ∷ behind)) none in
    let mode = or_none (byte_fault file 6 is_mode) (first_of behind) e.1 in
    mode_again (get_or file 6 0) (leb-true (get_or file 6 0) 2 (byte_passed file 6 is_mode mode.0))

-- ---- the head

numbers : (file : List ℕ) → IsBytes file → 22 ≤ length file →
    little_bytes 4 (number_at file 10)
    ++ (little_bytes 4 (number_at file 14) ++ (little_bytes 4 (number_at file 18) ++ drop 22 file))
    ≡ drop 10 file
numbers file fits long =
    ap
    (λ (t : List ℕ). little_bytes 4 (number_at file 10) ++ (little_bytes 4 (number_at file 14) ++ t))
    (four_at file 18 22 fits long refl)
    ∙ ap (λ (t : List ℕ). little_bytes 4 (number_at file 10) ++ t) (four_at file 14 18 fits (omega arith) refl)
    ∙ four_at file 10 14 fits (omega arith) refl

-- the cell at a place holds this value
holds : (file : List ℕ) (place value : ℕ) → place < length file → get_or file place 0 ≡ value →
    drop place file ≡ value ∷ drop (suc place) file
holds file place value within is = drop-cons file place 0 within ∙ ap (λ (x : ℕ). x ∷ drop (suc place) file) is

settings_spelled : (file : List ℕ) → IsBytes file → 22 ≤ length file →
    get_or file 6 0 ≡ mode_number (mode_at (get_or file 6 0)) →
    drop 5 file ≡
    get_or file 5 0 ∷ mode_number (mode_at (get_or file 6 0)) ∷ get_or file 7 0 ∷ get_or file 8 0 ∷ get_or file 9 0
    ∷ (little_bytes 4 (number_at file 10)
    ++ (little_bytes 4 (number_at file 14) ++ (little_bytes 4 (number_at file 18) ++ drop 22 file)))
settings_spelled file fits long mode =
    drop-cons file 5 0 (omega arith)
    ∙ ap (λ (t : List ℕ). get_or file 5 0 ∷ t)
    (holds file 6 (mode_number (mode_at (get_or file 6 0))) (omega arith) mode
    ∙ ap (λ (t : List ℕ). mode_number (mode_at (get_or file 6 0)) ∷ t)
    (drop-cons file 7 0 (omega arith)
    ∙ ap (λ (t : List ℕ). get_or file 7 0 ∷ t)
    (drop-cons file 8 0 (omega arith)
    ∙ ap (λ (t : List ℕ). get_or file 8 0 ∷ t)
    (drop-cons file 9 0 (omega arith)
    ∙ ap (λ (t : List ℕ). get_or file 9 0 ∷ t) (sym (numbers file fits long))))))

pub head_spelled : (file : List ℕ) → IsBytes file → 22 ≤ length file → magic_fault file ≡ None →
    settings_fault file ≡ None → file ≡ head (get_or file 4 0) (config_at file) (number_at file 18) ++ drop 22 file
unfolding config_at
head_spelled file fits long magic settings =
    let letters = magic_none file magic in
    let mode = sym (mode_none file settings) in
    holds file 0 0x45 (omega arith) letters.0
    ∙ ap (λ (t : List ℕ). 0x45 ∷ t)
    (holds file 1 0x4c (omega arith) letters.1
    ∙ ap (λ (t : List ℕ). 0x4c ∷ t)
    (holds file 2 0x54 (omega arith) letters.2
    ∙ ap (λ (t : List ℕ). 0x54 ∷ t)
    (holds file 3 0x52 (omega arith) letters.3
    ∙ ap (λ (t : List ℕ). 0x52 ∷ t)
    (drop-cons file 4 0 (omega arith)
    ∙ ap (λ (t : List ℕ). get_or file 4 0 ∷ t) (settings_spelled file fits long mode)))))
