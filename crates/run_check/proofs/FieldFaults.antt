-- Fields with and without a fault.
use Rattle.std.proofs.Common.{◌≡◌, ℕ, ◌+◌, ◌*◌, ◌≤◌, Bool, false, not, ltb, List, [], ◌∷◌, length}
use Rattle.std.proofs.Common.{get_or, None, refl, arith}
use Rattle.std.proofs.lemmas.Bool.{le-ltb, ltb-false}
use Rattle.std.proofs.lemmas.Bool.Decides.{nat_tests}
use Rattle.el_base.specs.Config.{within}
use Rattle.el_base.specs.Firsts.{first_of, some_if}
use Rattle.el_base.specs.declared.hart_id.TheConstants.{MAX_HARTS}
use Rattle.el_base.proofs.Laws.Options.{both_none, cond_none, or_none}
use Rattle.file_numbers.proofs.Laws.Fields.{field_none, field_passes, passes_if, wrong_none}
use Rattle.file_numbers.specs.Numbers.{number_at}
use Rattle.run_check.specs.declared.fault.FaultKind.{FaultKind}
use Rattle.run_check.specs.declared.fault.FaultKind.TheVariants as kinds
use Rattle.run_check.specs.FaultKinds.{fault_of}
use Rattle.run_check.specs.Faults.{count_at, field, hart_at, harts_of, head_fault, line_at, line_count_fault}
use Rattle.run_check.specs.Faults.{line_fault, line_place, output_fault, stretch_fault, stretch_place}
use Rattle.run_check.specs.Faults.{tail_fault, view_fault, view_wrong, wrong}
use Rattle.run_check.specs.Rules.{count_wrong, hart_wrong, line_wrong, most_lines}
use Rattle.rv_flat.specs.FlatState.{output_limit}

-- ---- what no fault says

pub field_right : (file : List ℕ) (end : ℕ) (wrong : Bool) (kind : FaultKind) (place : ℕ) →
    field file end (some_if wrong (fault_of kind place)) ≡ None → (end ≤ length file) × (wrong ≡ false)
field_right file end wrong kind place none =
    let e = field_none _ file end (some_if wrong (fault_of kind place)) none in
    (e.0, (cond_none wrong (fault_of kind place) None e.1).0)

-- ---- what has none

pub right_passes : (file : List ℕ) (end : ℕ) (wrong : Bool) (kind : FaultKind) (place : ℕ) → end ≤ length file →
    wrong ≡ false → field file end (some_if wrong (fault_of kind place)) ≡ None
right_passes file end wrong kind place whole right =
    field_passes _ file end _ whole (passes_if wrong (fault_of kind place) right)

-- ---- the items

pub record StretchRight (file : List ℕ) (harts index : ℕ) : Type 0 where
  pub hart : hart_wrong harts (hart_at file) index ≡ false
  pub count : count_wrong (count_at file) index ≡ false
  pub whole : stretch_place index + 5 ≤ length file

pub stretch_right : (file : List ℕ) (harts index : ℕ) → stretch_fault file harts index ≡ None →
    StretchRight file harts index
unfolding stretch_fault
stretch_right file harts index none =
    let place = stretch_place index in
    let e = or_none _ _ none in
    let hart = field_right file (place + 1) (hart_wrong harts (hart_at file) index) kinds.Stretch place e.0 in
    let count = field_right file (place + 5) (count_wrong (count_at file) index) kinds.Stretch place e.1 in
    record { hart = hart.1; count = count.1; whole = count.0 }

pub stretch_passes : (file : List ℕ) (harts index : ℕ) → StretchRight file harts index →
    stretch_fault file harts index ≡ None
unfolding stretch_fault
stretch_passes file harts index r =
    let place = stretch_place index in
    let whole = r.whole in
    both_none _ _
    (right_passes file (place + 1) (hart_wrong harts (hart_at file) index) kinds.Stretch place (omega arith) r.hart)
    (right_passes file (place + 5) (count_wrong (count_at file) index) kinds.Stretch place (omega arith) r.count)

pub record LineRight (file : List ℕ) (lines index : ℕ) : Type 0 where
  pub number : line_wrong (line_at file lines) index ≡ false
  pub whole : line_place lines index + 68 ≤ length file

pub line_right : (file : List ℕ) (lines index : ℕ) → line_fault file lines index ≡ None → LineRight file lines index
unfolding line_fault
line_right file lines index none =
    let place = line_place lines index in
    let e = or_none _ _ none in
    let number = field_right file (place + 4) (line_wrong (line_at file lines) index) kinds.Lines place e.0 in
    let bytes = field_none _ file (place + 68) None e.1 in
    record { number = number.1; whole = bytes.0 }

pub line_passes : (file : List ℕ) (lines index : ℕ) → LineRight file lines index → line_fault file lines index ≡ None
unfolding line_fault
line_passes file lines index r =
    let place = line_place lines index in
    let whole = r.whole in
    both_none _ _
    (right_passes file (place + 4) (line_wrong (line_at file lines) index) kinds.Lines place (omega arith) r.number)
    (field_passes _ file (place + 68) None (omega arith) refl)

pub view_right : (file : List ℕ) (views hart place : ℕ) → place ≡ views + 138 * hart →
    view_fault file views hart ≡ None → (place + 138 ≤ length file) × (view_wrong file place ≡ false)
unfolding view_fault
view_right file views hart place is none =
    rw is (field_right file (views + 138 * hart + 138) (view_wrong file (views + 138 * hart)) kinds.View
    (views + 138 * hart) none)

pub view_passes : (file : List ℕ) (views hart : ℕ) → views + 138 * hart + 138 ≤ length file →
    view_wrong file (views + 138 * hart) ≡ false → view_fault file views hart ≡ None
unfolding view_fault
view_passes file views hart whole right =
    right_passes file (views + 138 * hart + 138) (view_wrong file (views + 138 * hart)) kinds.View
    (views + 138 * hart) whole right

-- ---- the other fields

pub record HeadRight (file : List ℕ) : Type 0 where
  pub first : get_or file 0 0 ≡ 0x45
  pub second : get_or file 1 0 ≡ 0x4c
  pub third : get_or file 2 0 ≡ 0x43
  pub fourth : get_or file 3 0 ≡ 0x54
  pub version : get_or file 4 0 ≡ 1
  pub some_hart : 1 ≤ harts_of file
  pub few_harts : harts_of file ≤ 8
  pub whole : 10 ≤ length file

within_of : (n : ℕ) → not (within 1 MAX_HARTS n) ≡ false → (1 ≤ n) × (n ≤ 8)
within_of n e = grind (arith, nat_tests)

pub head_right : (file : List ℕ) → head_fault file ≡ None → HeadRight file
unfolding head_fault
head_right file none =
    let third = wrong file 3 0x54 kinds.Magic ∷ [] in
    let second = wrong file 2 0x43 kinds.Magic ∷ third in
    let first = wrong file 1 0x4c kinds.Magic ∷ second in
    let letters = first_of (wrong file 0 0x45 kinds.Magic ∷ first) in
    let harts-wrong = not (within 1 MAX_HARTS (harts_of file)) in
    let behind = field file 10 None ∷ [] in
    let harts = field file 6 (some_if harts-wrong (fault_of kinds.Harts 5)) ∷ behind in
    let version = field file 5 (wrong file 4 1 kinds.Version) ∷ harts in
    let e0 = or_none (field file 4 letters) (first_of version) none in
    let e1 = or_none (field file 5 (wrong file 4 1 kinds.Version)) (first_of harts) e0.1 in
    let e2 = or_none (field file 6 (some_if harts-wrong (fault_of kinds.Harts 5))) (first_of behind) e1.1 in
    let e3 = or_none (field file 10 None) None e2.1 in
    let m = field_none _ file 4 letters e0.0 in
    let m0 = or_none (wrong file 0 0x45 kinds.Magic) (first_of first) m.1 in
    let m1 = or_none (wrong file 1 0x4c kinds.Magic) (first_of second) m0.1 in
    let m2 = or_none (wrong file 2 0x43 kinds.Magic) (first_of third) m1.1 in
    let m3 = or_none (wrong file 3 0x54 kinds.Magic) None m2.1 in
    let v = field_none _ file 5 (wrong file 4 1 kinds.Version) e1.0 in
    let h = within_of (harts_of file) (field_right file 6 harts-wrong kinds.Harts 5 e2.0).1 in
    record {
      first = wrong_none (fault_of kinds.Magic) file 0 0x45 m0.0;
      second = wrong_none (fault_of kinds.Magic) file 1 0x4c m1.0;
      third = wrong_none (fault_of kinds.Magic) file 2 0x43 m2.0;
      fourth = wrong_none (fault_of kinds.Magic) file 3 0x54 m3.0;
      version = wrong_none (fault_of kinds.Version) file 4 1 v.1;
      some_hart = h.0;
      few_harts = h.1;
      whole = (field_none _ file 10 None e3.0).0;
    }

pub output_right : (file : List ℕ) (place : ℕ) → output_fault file place ≡ None →
    (number_at file place ≤ output_limit) × (place + 4 + number_at file place ≤ length file)
unfolding output_fault
output_right file place none =
    let e = or_none _ _ none in
    let len = field_right file (place + 4) (ltb output_limit (number_at file place)) kinds.Output place e.0 in (
      ltb-false output_limit (number_at file place) len.1,
      (field_none _ file (place + 4 + number_at file place) None e.1).0,
    )

pub output_passes : (file : List ℕ) (place len : ℕ) → number_at file place ≡ len → len ≤ output_limit →
    place + 4 + len ≤ length file → output_fault file place ≡ None
unfolding output_fault
output_passes file place len is few whole =
    let short : place + 4 + number_at file place ≤ length file = rw is whole in
    let most : number_at file place ≤ output_limit = rw is few in
    both_none _ _
    (right_passes file (place + 4) (ltb output_limit (number_at file place)) kinds.Output place (omega arith)
    (le-ltb output_limit (number_at file place) most))
    (field_passes _ file (place + 4 + number_at file place) None short refl)

pub line_count_right : (file : List ℕ) (place : ℕ) → line_count_fault file place ≡ None →
    (number_at file place ≤ most_lines) × (place + 4 ≤ length file)
unfolding line_count_fault
line_count_right file place none =
    let e = field_right file (place + 4) (ltb most_lines (number_at file place)) kinds.Lines place none in
    (ltb-false most_lines (number_at file place) e.1, e.0)

pub line_count_passes : (file : List ℕ) (place : ℕ) → number_at file place ≤ most_lines → place + 4 ≤ length file →
    line_count_fault file place ≡ None
unfolding line_count_fault
line_count_passes file place few whole =
    right_passes file (place + 4) (ltb most_lines (number_at file place)) kinds.Lines place whole
    (le-ltb most_lines (number_at file place) few)

pub tail_right : (file : List ℕ) (end : ℕ) → tail_fault file end ≡ None → length file ≤ end
unfolding tail_fault
tail_right file end none =
    ltb-false end (length file) (cond_none (ltb end (length file)) (fault_of kinds.Tail end) None none).0

pub tail_passes : (file : List ℕ) (end : ℕ) → length file ≤ end → tail_fault file end ≡ None
unfolding tail_fault
tail_passes file end over = passes_if (ltb end (length file)) (fault_of kinds.Tail end) (le-ltb end (length file) over)
