-- A walk over the lines of memory.
use Rattle.std.proofs.Common.{◌≡◌, ◌≢◌, ℕ, zero, suc, ◌+◌, ◌-◌, ◌*◌, ◌/◌, ◌%◌, ◌≤◌, ◌<◌, true, false, ◌==◌, List, []}
use Rattle.std.proofs.Common.{◌∷◌, length, min, Option, Some, None, refl, sym, ap, subst, ◌∙◌, arith, inl, inr}
use Rattle.std.specs.Prelude.{slice_index}
use Rattle.std.proofs.Math.ListN.{get_or}
use Rattle.std.proofs.lemmas.Bool.{cases_lt}
use Rattle.std.proofs.lemmas.Bool.Decides.{nat_tests}
use Rattle.std.proofs.lemmas.List.{get_or_read}
use Rattle.el_base.specs.Line.{line_number}
use Rattle.el_base.specs.LineAddr.{line_addr}
use Rattle.elf_image.specs.Program.{IsProgram, Program}
use Rattle.rv_flat.specs.Memory.{byte_in}
use Rattle.run_check.specs.Check.{byte_from, patch_of_line, said_byte, IsInside, LineHolds}
use Rattle.run_check.specs.Rules.{line_wrong}
use Rattle.run_check.specs.Spelling.{line_in, patch_in}
use Rattle.run_check.specs.declared.content.Patch.{Patch}

-- ---- the line of a number

-- each line comes after those before it
abbrev pub Ascends : List Patch → Type 0
Ascends lines = (i j : ℕ) → i < j → j < length lines → line_in lines i < line_in lines j

next_after : (line : ℕ → ℕ) (k : ℕ) → line_wrong line (suc k) ≡ false → line (suc k - 1) < line (suc k)
next_after line k right = grind (arith, nat_tests)

pub ascends_of : (lines : List Patch) → ((k : ℕ) → k < length lines → line_wrong (line_in lines) k ≡ false) →
    Ascends lines
ascends_of lines rule i zero before within = absurd (omega arith)
ascends_of lines rule i (suc j) before within =
    let back : suc j - 1 ≡ j = omega arith in
    let step : line_in lines j < line_in lines (suc j) =
    subst (λ n. line_in lines n < line_in lines (suc j)) back (next_after (line_in lines) j (rule (suc j) within))
    in
    elim (cases_lt i j) [
      | inl lower ↦ let rest = ascends_of lines rule i j lower (omega arith) in omega arith
      | inr past ↦ let same : i ≡ j = omega arith in rw same step
    ]

pub found_first : (lines : List Patch) (k line : ℕ) → k < length lines → ((i : ℕ) → i < k → line_in lines i ≢ line) →
    line_in lines k ≡ line → patch_of_line lines line ≡ Some (patch_in lines k)
found_first [] k line within others here = absurd (omega arith)
found_first (patch ∷ lines) zero line within others here =
    let yes : (patch.line.number == line) ≡ true = grind (arith, nat_tests) in
    rw yes refl
found_first (patch ∷ lines) (suc k) line within others here =
    let other : patch.line.number ≢ line = others 0 (omega arith) in
    let no : (patch.line.number == line) ≡ false = grind (arith, nat_tests) in
    rw no (found_first lines k line (omega arith) (λ i low. others (suc i) (omega arith)) here)

pub none_found : (lines : List Patch) (line : ℕ) → ((i : ℕ) → i < length lines → line_in lines i ≢ line) →
    patch_of_line lines line ≡ None
none_found [] line others = refl
none_found (patch ∷ lines) line others =
    let other : patch.line.number ≢ line = others 0 (omega arith) in
    let no : (patch.line.number == line) ≡ false = grind (arith, nat_tests) in
    rw no (none_found lines line (λ i low. others (suc i) (omega arith)))

-- ---- one line

said_none : (program : Program) (lines : List Patch) (address line : ℕ) → line_number address ≡ line →
    patch_of_line lines line ≡ None → said_byte program lines address ≡ byte_in program.base program.bytes address
said_none program lines address line on none =
    ap (λ n. byte_from (patch_of_line lines n) (address % 64) (byte_in program.base program.bytes address)) on
    ∙ ap (λ (p : Option Patch). byte_from p (address % 64) (byte_in program.base program.bytes address)) none

said_some : (program : Program) (lines : List Patch) (address line : ℕ) (patch : Patch) → line_number address ≡ line →
    patch_of_line lines line ≡ Some patch → said_byte program lines address ≡ slice_index patch.bytes (address % 64)
said_some program lines address line patch on some =
    ap (λ n. byte_from (patch_of_line lines n) (address % 64) (byte_in program.base program.bytes address)) on
    ∙ ap (λ (p : Option Patch). byte_from p (address % 64) (byte_in program.base program.bytes address)) some

-- a line that the certificate has not, and that is as in the image
pub image_line_holds : (program : Program) (lines : List Patch) (memory : List ℕ) (line : ℕ) →
    patch_of_line lines line ≡ None → ((address : ℕ) → line_number address ≡ line → IsInside program address →
    byte_in program.base memory address ≡ byte_in program.base program.bytes address) →
    LineHolds program lines memory line
image_line_holds program lines memory line none same = record {
  bytes = λ address on inside. same address on inside ∙ sym (said_none program lines address line on none);
  inside = λ patch some. absurd (let e : None ≡ Some patch = sym none ∙ some in cc);
}

-- a line that the certificate has, inside of memory, with its bytes
pub patch_line_holds : (program : Program) (lines : List Patch) (memory : List ℕ) (line : ℕ) (patch : Patch) →
    patch_of_line lines line ≡ Some patch → IsInside program (64 * line) →
    ((index : ℕ) → index < 64 → byte_in program.base memory (64 * line + index) ≡ slice_index patch.bytes index) →
    LineHolds program lines memory line
patch_line_holds program lines memory line patch some inside same = record {
  bytes =
      λ address on within.
      let low : address % 64 < 64 = omega arith in
      let is : 64 * line + address % 64 ≡ address = omega (arith, on) in
      ap (byte_in program.base memory) (sym is) ∙ same (address % 64) low
      ∙ sym (said_some program lines address line patch on some);
  inside = λ _ _. inside;
}

-- ---- lines that differ

-- a line that the certificate has not differs from the image
pub image_line_fails : (program : Program) (lines : List Patch) (memory : List ℕ) (address line : ℕ) →
    line_number address ≡ line → patch_of_line lines line ≡ None → IsInside program address →
    byte_in program.base memory address ≢ byte_in program.base program.bytes address →
    ¬ LineHolds program lines memory line
image_line_fails program lines memory address line on none inside differ holds =
    differ (holds.bytes address on inside ∙ said_none program lines address line on none)

-- memory differs from a line that the certificate has
pub patch_line_fails : (program : Program) (lines : List Patch) (memory : List ℕ) (line index : ℕ) (patch : Patch) →
    patch_of_line lines line ≡ Some patch → IsInside program (64 * line + index) → index < 64 →
    byte_in program.base memory (64 * line + index) ≢ slice_index patch.bytes index →
    ¬ LineHolds program lines memory line
patch_line_fails program lines memory line index patch some inside low differ holds =
    let on : line_number (64 * line + index) ≡ line = omega arith in
    let at : (64 * line + index) % 64 ≡ index = omega arith in
    differ (holds.bytes (64 * line + index) on inside ∙ said_some program lines (64 * line + index) line patch on some
    ∙ ap (slice_index patch.bytes) at)

-- a line that the certificate has lies outside of memory
pub outside_line_fails : (program : Program) (lines : List Patch) (memory : List ℕ) (line : ℕ) (patch : Patch) →
    patch_of_line lines line ≡ Some patch → ¬ IsInside program (64 * line) → ¬ LineHolds program lines memory line
outside_line_fails program lines memory line patch some outside holds = outside (holds.inside patch some)

-- the last line of memory ends where memory does
pub last_line_ends : (program : Program) (base : ℕ) (bytes : List ℕ) → IsProgram program → base ≡ program.base →
    bytes ≡ program.bytes → 64 * (base / 64 + length bytes / 64) ≡ program.base + length program.bytes
last_line_ends program base bytes whole base_is bytes_are =
    omega (arith, base_is, ap length bytes_are, whole.base_on_line, whole.length_on_line)

-- ---- the walk

-- all lines below this one hold, and the lines of the certificate below this index were passed
pub record Walked (program : Program) (lines : List Patch) (memory : List ℕ) (index next : ℕ) : Type 0 where
  pub from_base : program.base ≤ 64 * next
  pub to_end : 64 * next ≤ program.base + length program.bytes
  pub below : (line : ℕ) → line < next → LineHolds program lines memory line
  pub passed : (i : ℕ) → i < index → line_in lines i < next
  pub above : (i : ℕ) → i < length lines → program.base ≤ 64 * line_in lines i

-- below the first line of memory nothing is said, where the certificate has no line there
pub start_walk : (program : Program) (lines : List Patch) (memory : List ℕ) (first : ℕ) → 64 * first ≡ program.base →
    ((i : ℕ) → i < length lines → first ≤ line_in lines i) → Walked program lines memory 0 first
start_walk program lines memory first is above = record {
  from_base = omega arith;
  to_end = omega arith;
  below =
      λ line low.
      image_line_holds program lines memory line (none_found lines line
      (λ i within same. let a = above i within in absurd (omega arith)))
      (λ address on inside. let b = inside.0 in absurd (omega (arith, on)));
  passed = λ i low. absurd (omega arith);
  above = λ i within. let a = above i within in omega arith;
}

-- no line of the certificate lies between
none_between : (program : Program) (lines : List Patch) (memory : List ℕ) (index next to line : ℕ) →
    Walked program lines memory index next → ((i : ℕ) → index ≤ i → i < length lines → to ≤ line_in lines i) →
    next ≤ line → line < to → patch_of_line lines line ≡ None
none_between program lines memory index next to line w behind low high =
    none_found lines line
    (λ i within same.
    elim (cases_lt i index) [
      | inl before ↦ let p = w.passed i before in absurd (omega arith)
      | inr past ↦ let b = behind i past within in absurd (omega arith)
    ])

-- memory is as in the image up to this line, and no line of the certificate lies there
pub walk_to : (program : Program) (lines : List Patch) (memory : List ℕ) (index next to : ℕ) →
    Walked program lines memory index next → ((i : ℕ) → index ≤ i → i < length lines → to ≤ line_in lines i) →
    ((address : ℕ) → 64 * next ≤ address → address < 64 * to → IsInside program address →
    byte_in program.base memory address ≡ byte_in program.base program.bytes address) →
    (line : ℕ) → line < to → LineHolds program lines memory line
walk_to program lines memory index next to w behind same line high =
    elim (cases_lt line next) [
      | inl low ↦ w.below line low
      | inr past ↦
          image_line_holds program lines memory line (none_between program lines memory index next to line w behind past
          high)
          (λ address on inside. same address (omega (arith, on)) (omega (arith, on)) inside)
    ]

-- the first address that is not as in the image
pub walk_stops : (program : Program) (lines : List Patch) (memory : List ℕ) (index next to found : ℕ) →
    Walked program lines memory index next → ((i : ℕ) → index ≤ i → i < length lines → to ≤ line_in lines i) →
    64 * to ≤ program.base + length program.bytes → 64 * next ≤ found → found < 64 * to →
    byte_in program.base memory found ≢ byte_in program.base program.bytes found →
    ((address : ℕ) → 64 * next ≤ address → address < found →
    byte_in program.base memory address ≡ byte_in program.base program.bytes address) →
    (¬ LineHolds program lines memory (found / 64))
    × ((line : ℕ) → line < found / 64 → LineHolds program lines memory line)
walk_stops program lines memory index next to found w behind end low high differ same =
    let base = w.from_base in (
      image_line_fails program lines memory found (found / 64) refl
          (none_between program lines memory index next to (found / 64) w behind (omega arith) (omega arith))
          (omega arith, omega arith) differ,
      λ line before.
          walk_to program lines memory index next (found / 64) w
          (λ i past within. let b = behind i past within in omega arith)
          (λ address from until inside. same address from (omega arith)) line before,
    )

-- ---- at a line of the certificate

-- the line that the certificate has at an index
pub record At (lines : List Patch) (index line : ℕ) (patch : Patch) : Type 0 where
  pub within : index < length lines
  pub is : patch_in lines index ≡ patch
  pub number : patch.line.number ≡ line

-- the line of the certificate at an index
pub at_item : (lines : List Patch) (index : ℕ) (patch : Patch) → index < length lines →
    patch ≡ get_or lines index patch → At lines index patch.line.number patch
at_item lines index patch within is = record {
  within = within;
  is = sym (get_or_read lines index patch within is (record { line = line_addr 0; bytes = [] }));
  number = refl;
}

number_at_index : {lines : List Patch} {index line : ℕ} {patch : Patch} → At lines index line patch →
    line_in lines index ≡ line
number_at_index a = ap (λ (p : Patch). p.line.number) a.is ∙ a.number

from_index : {lines : List Patch} {index line : ℕ} {patch : Patch} → Ascends lines → At lines index line patch →
    (i : ℕ) → index ≤ i → i < length lines → line ≤ line_in lines i
from_index {lines} {index} {line} {patch} up a i past within =
    let here = number_at_index a in
    elim (cases_lt index i) [
      | inl after ↦ let more = up index i after within in omega (arith, here)
      | inr not-after ↦ let same : i ≡ index = omega arith in rw same (omega (arith, here))
    ]

found_at : {lines : List Patch} {index line : ℕ} {patch : Patch} → Ascends lines → At lines index line patch →
    patch_of_line lines line ≡ Some patch
found_at {lines} {index} {line} {patch} up a =
    let here = number_at_index a in
    found_first lines index line a.within (λ i low same. let less =
    up i index low a.within in absurd (omega (arith, here, same))) here
    ∙ ap (λ (p : Patch). Some p) a.is

-- a line of the certificate below memory
pub before_memory : {lines : List Patch} {line : ℕ} {patch : Patch} (program : Program) (memory : List ℕ) (first : ℕ) →
    Ascends lines → At lines 0 line patch → 64 * first ≡ program.base → line < first →
    (¬ LineHolds program lines memory line) × ((k : ℕ) → k < line → LineHolds program lines memory k)
before_memory {lines} {line} {patch} program memory first up a is low = (
  outside_line_fails program lines memory line patch (found_at up a)
      (λ inside. let b = inside.0 in absurd (omega (arith, is))),
  λ k before.
      image_line_holds program lines memory k
      (none_found lines k (λ i within same. let more = from_index up a i (omega arith) within in absurd (omega arith)))
      (λ address on inside. let b = inside.0 in absurd (omega (arith, on))),
)

pub first_least : (lines : List Patch) (first : ℕ) (patch : Patch) → patch ≡ patch_in lines 0 →
    first ≤ patch.line.number → 0 < length lines → first ≤ line_in lines 0
first_least lines first patch is low _ = let same : patch.line.number ≡ line_in lines 0 =
    ap (λ (p : Patch). p.line.number) is in omega arith

-- no line of the certificate lies below memory
pub begin_walk : (program : Program) (lines : List Patch) (memory : List ℕ) (first : ℕ) → Ascends lines →
    64 * first ≡ program.base → (0 < length lines → first ≤ line_in lines 0) → Walked program lines memory 0 first
begin_walk program lines memory first up is above =
    start_walk program lines memory first is
    (λ i within.
    elim (cases_lt 0 i) [
      | inl later ↦ let least = above (omega arith) in let more = up 0 i later within in omega arith
      | inr none ↦ let same : i ≡ 0 = omega arith in rw same (above (omega arith))
    ])

-- memory as in the image, from the walk on up to a line or the end
abbrev pub IsImage : Program → List ℕ → ℕ → ℕ → Type 0
IsImage program memory next to =
    (address : ℕ) → 64 * next ≤ address → address < 64 * to →
    byte_in program.base memory address ≡ byte_in program.base program.bytes address

-- an address before a line of the certificate is not as in the image
pub stops_before : {lines : List Patch} {index line : ℕ} {patch : Patch} (program : Program) (memory : List ℕ)
    (next to found : ℕ) → Walked program lines memory index next → Ascends lines → At lines index line patch →
    to ≤ line → 64 * to ≤ program.base + length program.bytes → 64 * next ≤ found → found < 64 * to →
    byte_in program.base memory found ≢ byte_in program.base program.bytes found →
    ((address : ℕ) → 64 * next ≤ address → address < found →
    byte_in program.base memory address ≡ byte_in program.base program.bytes address) →
    (¬ LineHolds program lines memory (found / 64))
    × ((k : ℕ) → k < found / 64 → LineHolds program lines memory k)
stops_before {lines} {index} {line} program memory next to found w up a near end low high differ same =
    walk_stops program lines memory index next to found w
    (λ i past within. let more = from_index up a i past within in omega arith)
    end low high differ same

below_line : {lines : List Patch} {index line : ℕ} {patch : Patch} (program : Program) (memory : List ℕ)
    (next to end : ℕ) → Walked program lines memory index next → Ascends lines → At lines index line patch →
    64 * end ≡ program.base + length program.bytes → to ≡ min line end →
    IsImage program memory next to → (k : ℕ) → k < line → LineHolds program lines memory k
below_line {lines} {index} {line} program memory next to end w up a is least same =
    walk_to program lines memory index next line w (from_index up a)
    (λ address from until inside. let b = inside.1 in same address from (omega (arith, least)))

-- a line of the certificate behind memory
pub behind_memory : {lines : List Patch} {index line : ℕ} {patch : Patch} (program : Program) (memory : List ℕ)
    (next to end : ℕ) → Walked program lines memory index next → Ascends lines → At lines index line patch →
    64 * end ≡ program.base + length program.bytes → to ≡ min line end →
    IsImage program memory next to → end ≤ line →
    (¬ LineHolds program lines memory line) × ((k : ℕ) → k < line → LineHolds program lines memory k)
behind_memory {lines} {index} {line} {patch} program memory next to end w up a is least same over = (
  outside_line_fails program lines memory line patch (found_at up a)
      (λ inside. let b = inside.1 in absurd (omega arith)),
  below_line program memory next to end w up a is least same,
)

pub on_or_above : {program : Program} {lines : List Patch} {memory : List ℕ} {index next line : ℕ} {patch : Patch} →
    Walked program lines memory index next → At lines index line patch → program.base ≤ 64 * line
on_or_above {lines = lines} {index = index} w a = let above = w.above index a.within in let here =
    number_at_index a in omega (arith, here, above)

-- a line of the certificate that memory has not
pub other_line : {lines : List Patch} {index line : ℕ} {patch : Patch} (program : Program) (memory : List ℕ)
    (next to end at : ℕ) → Walked program lines memory index next → Ascends lines → At lines index line patch →
    64 * end ≡ program.base + length program.bytes → to ≡ min line end →
    IsImage program memory next to → line < end → at < 64 →
    byte_in program.base memory (64 * line + at) ≢ slice_index patch.bytes at →
    (¬ LineHolds program lines memory line) × ((k : ℕ) → k < line →
    LineHolds program lines memory k)
other_line {lines} {index} {line} {patch} program memory next to end at w up a is least same under low differ =
    let above = on_or_above w a in (
      patch_line_fails program lines memory line at patch (found_at up a) (omega arith, omega arith) low differ,
      below_line program memory next to end w up a is least same,
    )

-- a line of the certificate that memory has
pub walk_on : {lines : List Patch} {index line : ℕ} {patch : Patch} (program : Program) (memory : List ℕ)
    (next to end : ℕ) → Walked program lines memory index next → Ascends lines → At lines index line patch →
    64 * end ≡ program.base + length program.bytes → to ≡ min line end →
    IsImage program memory next to → line < end →
    ((at : ℕ) → at < 64 → byte_in program.base memory (64 * line + at) ≡ slice_index patch.bytes at) →
    Walked program lines memory (index + 1) (line + 1)
walk_on {lines} {index} {line} {patch} program memory next to end w up a is least same under bytes =
    let above = on_or_above w a in
    record {
      from_base = omega arith;
      to_end = omega arith;
      below =
          λ k low.
          elim (cases_lt k line) [
            | inl before ↦ below_line program memory next to end w up a is least same k before
            | inr past ↦
                let this : line ≡ k = omega arith in
                subst (LineHolds program lines memory) this
                (patch_line_holds program lines memory line patch (found_at up a) (omega arith, omega arith) bytes)
          ];
      passed =
          λ i low.
          let here = number_at_index a in
          elim (cases_lt i index) [
            | inl before ↦ let less = up i index before a.within in omega (arith, here)
            | inr past ↦ let this : i ≡ index = omega arith in rw this (omega (arith, here))
          ];
      above = w.above;
    }

-- behind the last line of the certificate
pub walk_ends : (program : Program) (lines : List Patch) (memory : List ℕ) (index next end : ℕ) →
    Walked program lines memory index next → length lines ≤ index → 64 * end ≡ program.base + length program.bytes →
    IsImage program memory next end → (line : ℕ) → LineHolds program lines memory line
walk_ends program lines memory index next end w over is same line =
    walk_to program lines memory index next (suc line) w (λ i past within. absurd (omega arith))
    (λ address from until inside. let b = inside.1 in same address from (omega arith)) line (omega arith)

pub stops_behind : (program : Program) (lines : List Patch) (memory : List ℕ) (index next end found : ℕ) →
    Walked program lines memory index next → length lines ≤ index → 64 * end ≡ program.base + length program.bytes →
    64 * next ≤ found → found < 64 * end → byte_in program.base memory found
    ≢ byte_in program.base program.bytes found → ((address : ℕ) → 64 * next ≤ address → address < found →
    byte_in program.base memory address ≡ byte_in program.base program.bytes address) →
    (¬ LineHolds program lines memory (found / 64))
    × ((k : ℕ) → k < found / 64 → LineHolds program lines memory k)
stops_behind program lines memory index next end found w over is low high differ same =
    walk_stops program lines memory index next end found w (λ i past within. absurd (omega arith))
    (omega arith) low high differ same
