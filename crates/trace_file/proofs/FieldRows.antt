-- Fields that stand one behind the other.
use Rattle.std.proofs.Common.{◌≡◌, ℕ, ◌+◌, ◌≤◌, true, not, ltb, List, [], ◌∷◌, ◌++◌, length, drop, None}
use Rattle.std.proofs.Common.{refl, sym, ap, ◌∙◌, arith}
use Rattle.std.proofs.lemmas.Bool.{le-ltb, ltb-false, not-false}
use Rattle.std.proofs.lemmas.List.{drop_at, drop-drop, length-append, length-drop}
use Rattle.el_base.proofs.Laws.Options.{both_none, cond_none, or_none}
use Rattle.file_numbers.proofs.Laws.Fields.{passes_if}
use Rattle.trace_file.specs.FaultKinds.{fault_of}
use Rattle.trace_file.specs.Fields.{Field, widths}
use Rattle.trace_file.specs.Faults.{field_fault, fields_fault}
use Rattle.trace_file.specs.declared.fault.FaultKind.TheVariants.{Short}

-- ---- fields without a fault

-- a field without a fault is whole, and passes
pub field_known : (place : ℕ) (bytes : List ℕ) (one : Field) → field_fault place bytes one ≡ None →
    (one.width ≤ length bytes) × (one.passes bytes ≡ true)
unfolding field_fault
field_known place bytes one none =
    let e = cond_none (ltb (length bytes) one.width) (fault_of Short (place + length bytes)) _ none in (
      ltb-false (length bytes) one.width e.0,
      not-false (one.passes bytes) (cond_none (not (one.passes bytes)) (fault_of one.kind place) None e.1).0,
    )

pub first_known : (place : ℕ) (bytes : List ℕ) (first : Field) (fields : List Field) →
    fields_fault place bytes (first ∷ fields) ≡ None →
    (first.width ≤ length bytes) × (first.passes bytes ≡ true)
    × (fields_fault (place + first.width) (drop first.width bytes) fields ≡ None)
first_known place bytes first fields none =
    let e =
    or_none (field_fault place bytes first) (fields_fault (place + first.width) (drop first.width bytes) fields)
    none in
    let known = field_known place bytes first e.0 in
    (known.0, known.1, e.1)

pub fields_whole : (place : ℕ) (bytes : List ℕ) (fields : List Field) → fields_fault place bytes fields ≡ None →
    widths fields ≤ length bytes
fields_whole place bytes [] none = omega arith
fields_whole place bytes (first ∷ fields) none =
    let e = first_known place bytes first fields none in
    let later = fields_whole (place + first.width) (drop first.width bytes) fields e.2 in
    omega (arith, e.0, later, length-drop first.width bytes)

-- ---- parts of a spelling

-- parts one behind the other, and what follows them
abbrev pub joined : List (List ℕ) → List ℕ → List ℕ
joined [] rest = rest
joined (part ∷ parts) rest = part ++ joined parts rest

-- each part has the bytes of its field and passes
abbrev pub Fill : List Field → List (List ℕ) → List ℕ → Type 0
Fill [] [] rest = Unit {0}
Fill [] (part ∷ parts) rest = ⊥
Fill (first ∷ fields) [] rest = ⊥
Fill (first ∷ fields) (part ∷ parts) rest =
    (length part ≡ first.width) × (first.passes (part ++ joined parts rest) ≡ true) × Fill fields parts rest

pub field_passes : (place : ℕ) (bytes : List ℕ) (one : Field) → one.width ≤ length bytes → one.passes bytes ≡ true →
    field_fault place bytes one ≡ None
unfolding field_fault
field_passes place bytes one whole passes =
    rw (le-ltb (length bytes) one.width whole)
    (passes_if (not (one.passes bytes)) (fault_of one.kind place) (ap not passes))

-- what fills the fields has no fault, and what follows it is behind the fields
pub filled : (place : ℕ) (fields : List Field) (parts : List (List ℕ)) (rest : List ℕ) → Fill fields parts rest →
    (fields_fault place (joined parts rest) fields ≡ None) × (drop (widths fields) (joined parts rest) ≡ rest)
filled place [] [] rest fill = (refl, refl)
filled place [] (part ∷ parts) rest fill = absurd fill
filled place (first ∷ fields) [] rest fill = absurd fill
filled place (first ∷ fields) (part ∷ parts) rest fill =
    let bytes = part ++ joined parts rest in
    let long : first.width ≤ length bytes = omega (arith, fill.0, length-append part (joined parts rest)) in
    let behind : drop first.width bytes ≡ joined parts rest = drop_at part (joined parts rest) first.width fill.0 in
    let later = filled (place + first.width) fields parts rest fill.2 in (
      both_none (field_fault place bytes first) (fields_fault (place + first.width) (drop first.width bytes) fields)
          (field_passes place bytes first long fill.1)
          (ap (λ (l : List ℕ). fields_fault (place + first.width) l fields) behind ∙ later.0),
      sym (drop-drop (widths fields) first.width bytes) ∙ ap (λ (l : List ℕ). drop (widths fields) l) behind ∙ later.1,
    )
